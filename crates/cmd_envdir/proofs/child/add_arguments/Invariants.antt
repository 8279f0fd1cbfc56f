use Rattle.std.proofs.Common.{◌≡◌, ◌++◌, take, map}
use Rattle.std.specs.Process.{command_program, command_args, SameEnv}
use Rattle.cmd_envdir.proofs.child.add_arguments.Given as goal

-- the arguments so far are added
abbrev pub invariant-loop-argument : goal.invariant-loop-argument
invariant-loop-argument g l =
    (command_program l.command ≡ command_program l.fn.command)
    × (command_args l.command ≡ command_args l.fn.command ++ map (λ word. word.now) (take l.argument-index l.arguments))
    × SameEnv l.fn.command l.command
