use Rattle.std.proofs.Common.{◌≡◌, ℕ, List, drop, false}
use Rattle.std.specs.Process.{command_var, clears_env, SameProgramAndArgs}
use Rattle.cmd_envdir.specs.Sayings.{said_after_files}
use Rattle.cmd_envdir.proofs.child.remove_variables.Given as goal

-- the changes by the files that are left
abbrev pub invariant-loop-file : goal.invariant-loop-file
invariant-loop-file g l = record {
  call : SameProgramAndArgs l.fn.command l.command;
  variables : (name : List ℕ) → said_after_files (drop l.file-index l.files) name (command_var l.command name)
      ≡ said_after_files l.files name (command_var l.fn.command name);
  others : clears_env l.command ≡ false;
}
