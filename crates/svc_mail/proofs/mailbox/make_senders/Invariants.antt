use Rattle.std.proofs.Common.{◌≡◌, [], length}
use Rattle.std.specs.Arc.{arc_value}
use Rattle.crossbeam_queue.specs.Passes.{view, IsPassOf, ruled_capacity}
use Rattle.svc_mail.specs.Kept.{taker}
use Rattle.svc_mail.specs.Ends.{AreNewSenders}
use Rattle.svc_mail.proofs.mailbox.make_senders.Given as goal

abbrev pub invariant-loop-number : goal.invariant-loop-number
invariant-loop-number g l =
    IsPassOf (arc_value l.queue) l.mark × (view l.mark ≡ taker l.senders l.number [] [] [] [])
    × (length l.ends.items ≡ l.number)
    × AreNewSenders (ruled_capacity (arc_value l.queue)) l.senders (arc_value l.queue).table.shared.table_id
    l.ends.items
