use Rattle.std.proofs.Common.{◌∙◌, ap}
use Rattle.std.specs.Prelude.{unwrap_or}
use Rattle.mlog_script.specs.Action.{act}
use Rattle.mlog_script.proofs.Plans.{keep_step}
use Rattle.mlog_script.proofs.plan.keep_after.Goals as goal

pub loop-action-preserved : goal.loop-action-preserved
loop-action-preserved g c =
    keep_step act c.args.actions.now c.loop-action.action-index c.action-item.result c.loop-action.keep _
    c.loop-action-test.true c.action-item.is c.loop-action.invariant
    (c.unwrap_or-keep.ensures ∙ ap (λ set. unwrap_or set c.loop-action.keep) c.keep_set.ensures)
