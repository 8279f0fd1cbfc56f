use Rattle.std.proofs.Common.{◌≡◌, map}
use Rattle.crossbeam_queue.specs.Passes.{view, IsPassOf}
use Rattle.svc_mail.specs.Kept.{taker}
use Rattle.svc_mail.specs.Ends.{record_of}
use Rattle.svc_mail.proofs.mailbox.join_senders.Given as goal

abbrev pub invariant-loop-sender : goal.invariant-loop-sender
invariant-loop-sender g l =
    let v = view l.fn.mark in
    IsPassOf l.queue l.mark × (view l.mark ≡ taker v.all v.made v.taken (map record_of l.yielded) v.seen v.heard)
