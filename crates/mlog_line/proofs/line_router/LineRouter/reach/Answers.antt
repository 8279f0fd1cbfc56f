use Rattle.std.proofs.Common.{ap, ◌∙◌}
use Rattle.mlog_script.specs.Selection.{chosen}
use Rattle.mlog_line.proofs.Alerted.{front_taken}
use Rattle.mlog_line.proofs.line_router.LineRouter.reach.Goals as goal

pub returns-clause-chosen : goal.returns-clause-chosen
returns-clause-chosen g c =
    c.choose.ensures.chosen
    ∙ ap (chosen c.args.script.now) (front_taken c.args.line.now c.min-len.result c.min-len.ensures)
