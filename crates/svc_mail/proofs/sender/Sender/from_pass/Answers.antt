use Rattle.std.proofs.Common.{◌<◌, subst, sym, ℕ}
use Rattle.crossbeam_queue.specs.Passes.{view}
use Rattle.svc_mail.proofs.Steps.{makes}
use Rattle.svc_mail.proofs.sender.Sender.from_pass.Goals as goal

pub another-its-requires-clause-rule : goal.another-its-requires-clause-rule
another-its-requires-clause-rule g c =
    let v = view c.args.mark.now in
    makes _ v c.requires.takes (subst (λ (n : ℕ). n < v.all) (sym c.requires.next.0) c.requires.next.1)
