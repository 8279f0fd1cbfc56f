use Rattle.std.proofs.Common.{map}
use Rattle.mlog_script.specs.Action.{act, AreQuiet}
use Rattle.mlog_script.proofs.script.quiet_front.Given as goal

abbrev pub invariant-loop-place : goal.invariant-loop-place
invariant-loop-place g l = AreQuiet l.place (map act l.actions)
