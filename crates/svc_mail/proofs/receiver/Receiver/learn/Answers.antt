use Rattle.std.proofs.Common.{ap}
use Rattle.crossbeam_queue.specs.Passes.{view}
use Rattle.svc_mail.proofs.Steps.{hears_posted}
use Rattle.svc_mail.proofs.receiver.Receiver.learn.Goals as goal

pub absorb-requires-clause-rule : goal.absorb-requires-clause-rule
absorb-requires-clause-rule g c =
    hears_posted _ (view c.args.self.now.mark) _ _ (ap (λ v. v.takes) c.args.self.now.knows)
