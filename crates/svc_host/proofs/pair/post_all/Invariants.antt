use Rattle.std.proofs.Common.{◌≡◌}
use Rattle.svc_mail.specs.Ends.{IsSameSender}
use Rattle.svc_host.proofs.pair.post_all.Given as goal

abbrev pub invariant-loop : goal.invariant-loop
invariant-loop g l =
    (goal.iterator-loop g).can_next l.iterator' × (goal.iterator-loop g).is_finite l.iterator'
    × IsSameSender l.fn.intake.sender l.intake.sender × (l.intake.opening ≡ l.fn.intake.opening)
