use Rattle.std.proofs.Common.{List, rules, ap, ◌∙◌}
use Rattle.std.specs.Process.{command_var}
use Rattle.env_title.specs.Env.{Binding}
use Rattle.cmd_envdir.specs.Sayings.{said_after_files, said_after_set}
use Rattle.cmd_envdir.proofs.Children.{said_whole}
use Rattle.cmd_envdir.proofs.child.child_command.Goals as goal

pub returns : goal.returns
returns g c =
    let files = c.args.files.now in
    let env = c.args.variables.now in
    let same = c.as_slice.ensures.variables in
    let distinct = c.as_slice.ensures.distinct in
    record {
      program_is = search rules;
      arguments_are = search rules;
      variables_are = λ name.
          c.in_ok-set_variables.ensures.variables name
          ∙ ap (λ (vs : List Binding). said_after_set vs name (command_var c.remove_variables.new.command name)) same
          ∙ ap (said_after_set env name) (
          c.in_ok-remove_variables.ensures.variables name
          ∙ ap (said_after_files files name) (c.in_ok-add_arguments.ensures.variables.1 name
          ∙ c.in_ok-command.ensures.vars name)
          )
          ∙ said_whole files env name distinct;
      others_stay = search rules;
    }
