use Rattle.cmd_svscan.specs.Closing.{EndInTurn}
use Rattle.cmd_svscan.proofs.closing.end_in_steps.Given as goal

-- the steps so far
abbrev pub invariant-loop : goal.invariant-loop
invariant-loop g l = EndInTurn l.fn.host.parts l.host.parts
