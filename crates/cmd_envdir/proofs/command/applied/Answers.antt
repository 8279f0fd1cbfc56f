use Rattle.std.proofs.Common.{Err, ap, ◌∙◌}
use Rattle.cmd_envdir.specs.Ends.{starved}
use Rattle.cmd_envdir.proofs.Children.{starved_first, wanted}
use Rattle.cmd_envdir.proofs.command.applied.Goals as goal

pub returns-in_default-clause-first : goal.returns-in_default-clause-first
returns-in_default-clause-first g c =
    starved_first c.args.files.now _ (c.starved.ensures ∙ ap starved c.first_fault.ensures)

pub returns-in-Err-OutOfMemory-clause-first : goal.returns-in-Err-OutOfMemory-clause-first
returns-in-Err-OutOfMemory-clause-first g c =
    wanted c.args.files.now c.apply.result c.apply.ensures.refuses
    (c.in-Err-OutOfMemory.is ∙ ap Err c.in-Err-OutOfMemory.field-0-is)
