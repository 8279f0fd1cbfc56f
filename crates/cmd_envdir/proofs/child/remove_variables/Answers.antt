use Rattle.std.proofs.Common.{◌≡◌, ℕ, List, rules, Some, None}
use Rattle.std.specs.Prelude.{◌≢◌}
use Rattle.std.specs.Process.{command_var}
use Rattle.cmd_envdir.specs.Sayings.{said_after_files}
use Rattle.cmd_envdir.proofs.Children.{taken_further}
use Rattle.cmd_envdir.proofs.child.remove_variables.Goals as goal

pub loop-file-preserved : goal.loop-file-preserved
loop-file-preserved g c =
    let after = c.in_ok-env_remove.field-0.now in
    let taken : command_var after c.file-item.result.name ≡ Some None = search rules in
    let others : (other : List ℕ) → other ≢ c.file-item.result.name
    → command_var after other ≡ command_var c.loop-file.command other = search rules in
    let further = taken_further c.args.files.now c.loop-file.file-index c.file-item.result
    (command_var c.loop-file.command) (command_var after)
    (λ name. said_after_files c.args.files.now name (command_var c.args.command.now name))
    c.loop-file-test.true c.file-item.is taken others c.loop-file.invariant.variables in
    record { call = search rules; variables = search (rules, further); others = search rules }
