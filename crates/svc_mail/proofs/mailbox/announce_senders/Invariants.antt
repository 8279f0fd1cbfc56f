use Rattle.std.proofs.Common.{◌≡◌, []}
use Rattle.crossbeam_queue.specs.Passes.{view, IsPassOf}
use Rattle.svc_mail.specs.Kept.{taker}
use Rattle.svc_mail.proofs.mailbox.announce_senders.Given as goal

abbrev pub invariant-loop-made : goal.invariant-loop-made
invariant-loop-made g l = IsPassOf l.queue l.mark × (view l.mark ≡ taker l._made 0 [] [] [] [])
