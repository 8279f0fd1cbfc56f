use Rattle.std.proofs.Common.{◌≡◌}
use Rattle.cmd_svscan.specs.Resting.{AreCollectedInTurn}
use Rattle.cmd_svscan.specs.Serving.{given_by}
use Rattle.cmd_svscan.proofs.resting.hear_until_over.Given as goal

-- threads were joined, and nothing was heard so far
abbrev pub invariant-loop : goal.invariant-loop
invariant-loop g l = record {
  host : AreCollectedInTurn l.fn.host l.host;
  given : given_by l.inbox ≡ given_by l.fn.inbox;
}
