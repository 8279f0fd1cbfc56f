use Rattle.std.proofs.Common.{◌∙◌, ap}
use Rattle.std.specs.Prelude.{unwrap_or}
use Rattle.mlog_script.specs.Action.{act}
use Rattle.mlog_script.proofs.Plans.{size_step}
use Rattle.mlog_script.proofs.plan.size_after.Goals as goal

pub loop-action-preserved : goal.loop-action-preserved
loop-action-preserved g c =
    size_step act c.args.actions.now c.loop-action.action-index c.action-item.result c.loop-action.size _
    c.loop-action-test.true c.action-item.is c.loop-action.invariant
    (c.unwrap_or-size.ensures ∙ ap (λ set. unwrap_or set c.loop-action.size) c.size_set.ensures)
