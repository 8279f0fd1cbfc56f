use Rattle.std.proofs.Common.{◌≡◌}
use Rattle.svc_mail.specs.Ends.{IsSameReceiver, taken_by}
use Rattle.svc_tests.proofs.mail.take_until.Given as goal

abbrev pub invariant-loop : goal.invariant-loop
invariant-loop g l = IsSameReceiver l.fn.receiver l.receiver × (taken_by l.receiver ≡ taken_by l.fn.receiver)
