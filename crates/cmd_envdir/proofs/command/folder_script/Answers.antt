use Rattle.std.proofs.Common.{ap, ◌∙◌}
use Rattle.cmd_envdir.specs.Ends.{starved}
use Rattle.cmd_envdir.proofs.Children.{starved_first}
use Rattle.cmd_envdir.proofs.command.folder_script.Goals as goal

pub returns-in-Err-clause-first : goal.returns-in-Err-clause-first
returns-in-Err-clause-first g c =
    starved_first c.args.folder.now _ (c.starved.ensures ∙ ap starved c.fault_in.ensures)
