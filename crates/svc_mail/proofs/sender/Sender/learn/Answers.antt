use Rattle.std.proofs.Common.{ap}
use Rattle.crossbeam_queue.specs.Passes.{view}
use Rattle.svc_mail.proofs.Steps.{hears_taken}
use Rattle.svc_mail.proofs.sender.Sender.learn.Goals as goal

pub absorb-requires-clause-rule : goal.absorb-requires-clause-rule
absorb-requires-clause-rule g c =
    hears_taken _ (view c.args.self.now.mark) _ _ (ap (λ v. v.posts) c.args.self.now.knows)
