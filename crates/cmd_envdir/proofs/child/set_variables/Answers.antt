use Rattle.std.proofs.Common.{◌≡◌, ℕ, List, rules, Some}
use Rattle.std.specs.Prelude.{◌≢◌}
use Rattle.std.specs.Process.{command_var}
use Rattle.cmd_envdir.specs.Sayings.{said_after_set}
use Rattle.cmd_envdir.proofs.Children.{set_further}
use Rattle.cmd_envdir.proofs.child.set_variables.Goals as goal

pub loop-variable-preserved : goal.loop-variable-preserved
loop-variable-preserved g c =
    let after = c.in_ok-env.field-0.now in
    let set : command_var after c.variable-item.result.name ≡ Some (Some c.variable-item.result.value) = search rules in
    let others : (other : List ℕ) → other ≢ c.variable-item.result.name
    → command_var after other ≡ command_var c.loop-variable.command other = search rules in
    let further = set_further c.args.variables.now c.loop-variable.variable-index c.variable-item.result
    (command_var c.loop-variable.command) (command_var after)
    (λ name. said_after_set c.args.variables.now name (command_var c.args.command.now name))
    c.loop-variable-test.true c.variable-item.is set others c.loop-variable.invariant.variables in
    record { call = search rules; variables = search (rules, further); others = search rules }
