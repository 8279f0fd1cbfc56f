use Rattle.std.proofs.Common.{◌≡◌, map, take, drop}
use Rattle.std.specs.Prelude.{slice_get}
use Rattle.mlog_script.specs.Script.{log_plans}
use Rattle.mlog_script.specs.Action.{act}
use Rattle.mlog_script.proofs.Plans.{plans_behind}
use Rattle.mlog_script.proofs.plan.log_plan.Given as goal

abbrev pub invariant-loop-place : goal.invariant-loop-place
invariant-loop-place g l =
    slice_get (plans_behind (map act (take l.place l.actions)) (map act (drop l.place l.actions))) l.left
    ≡ slice_get (log_plans (map act l.actions)) l.log
