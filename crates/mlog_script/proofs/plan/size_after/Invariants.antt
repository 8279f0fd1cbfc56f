use Rattle.std.proofs.Common.{◌≡◌, map, take}
use Rattle.mlog_script.specs.Script.{size_after}
use Rattle.mlog_script.specs.Action.{act}
use Rattle.mlog_script.proofs.plan.size_after.Given as goal

abbrev pub invariant-loop-action : goal.invariant-loop-action
invariant-loop-action g l = l.size ≡ size_after (map act (take l.action-index l.actions))
