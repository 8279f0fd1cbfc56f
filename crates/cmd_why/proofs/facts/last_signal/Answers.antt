use Rattle.std.proofs.Common.{◌∙◌, ap}
use Rattle.cmd_why.specs.declared.entries.Kind.TheVariants as kind
use Rattle.cmd_why.specs.Entries.{is_of, behind_last, byte_in, last_of}
use Rattle.cmd_why.proofs.Lasts.{byte_came_if}
use Rattle.cmd_why.proofs.facts.last_signal.Goals as goal

pub returns-clause-came : goal.returns-clause-came
returns-clause-came c =
    byte_came_if (is_of kind.Signal) (behind_last kind.Start c.args.entries.now) c.byte_in.result
    (c.byte_in.ensures ∙ ap byte_in (c.last_of.ensures ∙ ap (last_of kind.Signal) c.behind_last.ensures))
