use Rattle.std.proofs.Common.{◌≡◌}
use Rattle.svc_door.specs.Listening.{IsSame}
use Rattle.svc_door.proofs.greeting.greet.Given as goal

abbrev pub invariant-loop-given : goal.invariant-loop-given
invariant-loop-given l = record {
  given : l.ok.given ≡ l._given;
  same : IsSame l.fn.ok l.ok;
}
