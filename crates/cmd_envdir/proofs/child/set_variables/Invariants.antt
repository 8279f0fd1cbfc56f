use Rattle.std.proofs.Common.{◌≡◌, ℕ, List, drop}
use Rattle.std.specs.Process.{command_var, clears_env, SameProgramAndArgs}
use Rattle.cmd_envdir.specs.Sayings.{said_after_set}
use Rattle.cmd_envdir.proofs.child.set_variables.Given as goal

-- the changes by the variables that are left
abbrev pub invariant-loop-variable : goal.invariant-loop-variable
invariant-loop-variable g l = record {
  call : SameProgramAndArgs l.fn.command l.command;
  variables : (name : List ℕ) → said_after_set (drop l.variable-index l.variables) name (command_var l.command name)
      ≡ said_after_set l.variables name (command_var l.fn.command name);
  others : clears_env l.command ≡ clears_env l.fn.command;
}
