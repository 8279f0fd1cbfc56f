use Rattle.suite_core.specs.Run.{Ran}
use Rattle.suite_core.proofs.suite.Suite.run.Given as goal

-- the events so far were taken
abbrev pub invariant-loop-place : goal.invariant-loop-place
invariant-loop-place g l = Ran l.fn.self l.self l.fn.out.items l.out.items l.events l.place
