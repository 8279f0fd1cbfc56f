use Rattle.std.proofs.Common.{ap}
use Rattle.crossbeam_queue.specs.Passes.{view}
use Rattle.svc_mail.proofs.Steps.{promises}
use Rattle.svc_mail.proofs.mailbox.announce_senders.Goals as goal

pub another-requires-clause-rule : goal.another-requires-clause-rule
another-requires-clause-rule g c = let e = c.loop-made.invariant.1 in
    promises _ (view c.loop-made.mark) (ap (λ v. v.takes) e) (ap (λ v. v.made) e)
