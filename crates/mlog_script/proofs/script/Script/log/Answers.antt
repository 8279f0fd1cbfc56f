use Rattle.std.proofs.Common.{◌∙◌, ap, map, count_by, List}
use Rattle.std.specs.Prelude.{slice_get}
use Rattle.mlog_script.specs.Script.{Act, is_log, log_plans}
use Rattle.mlog_script.specs.Action.{act}
use Rattle.mlog_script.proofs.Plans.{there, length-log_plans}
use Rattle.mlog_script.proofs.Limits.{plan_limits}
use Rattle.mlog_script.proofs.script.Script.log.Goals as goal

pub returns-clause-there : goal.returns-clause-there
returns-clause-there g c =
    there (log_plans (map act c.actions.result.now)) c.args.log _ _ c.log_plan.ensures
    (length-log_plans (map act c.actions.result.now) ∙ ap (count_by is_log) c.actions.ensures.actions)

pub returns-clause-limits : goal.returns-clause-limits
returns-clause-limits g c =
    plan_limits c.args.self.now c.args.log c.log_plan.result c.actions.ensures.limits
    (c.log_plan.ensures ∙ ap (λ (acts : List Act). slice_get (log_plans acts) c.args.log) c.actions.ensures.actions)
