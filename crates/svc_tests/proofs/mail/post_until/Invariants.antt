use Rattle.std.proofs.Common.{◌≡◌}
use Rattle.svc_mail.specs.Ends.{IsSameSender, posted}
use Rattle.svc_tests.proofs.mail.post_until.Given as goal

abbrev pub invariant-loop : goal.invariant-loop
invariant-loop g l = IsSameSender l.fn.sender l.sender × (posted l.sender ≡ posted l.fn.sender)
