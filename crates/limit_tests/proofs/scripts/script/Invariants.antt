use Rattle.std.specs.List.{All}
use Rattle.suite_core.specs.Suite.{IsSuiteEvent}
use Rattle.limit_tests.proofs.scripts.script.Given as goal

-- the events so far
abbrev pub invariant-loop-line : goal.invariant-loop-line
invariant-loop-line g l = All IsSuiteEvent l.events.items
