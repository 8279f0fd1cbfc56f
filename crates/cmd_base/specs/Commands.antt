-- The words that name commands.
use Rattle.std.specs.Prelude.{ℕ, List, [], ◌∷◌, bytes_eq, codes, Option}
use Rattle.std.specs.Map.{lookup}
use Rattle.cmd_base.specs.declared.command.Command.{Command}
use Rattle.cmd_base.specs.declared.command.Command.TheVariants as command

-- each word that names a command, together with the command
abbrev pub commands : List (List ℕ × Command)
commands = (
    (codes "svscan", command.Svscan) ∷
    (codes "supervise", command.Supervise) ∷
    (codes "svc", command.Svc) ∷
    (codes "svstat", command.Svstat) ∷
    (codes "svok", command.Svok) ∷
    (codes "wait", command.Wait) ∷
    (codes "restart", command.Restart) ∷
    (codes "multilog", command.Multilog) ∷
    (codes "tai64n", command.Tai64n) ∷
    (codes "tai64nlocal", command.Tai64nlocal) ∷
    (codes "envdir", command.Envdir) ∷
    (codes "readproctitle", command.Readproctitle) ∷
    (codes "sim", command.Sim) ∷
    (codes "trace", command.Trace) ∷
    (codes "why", command.Why) ∷
    (codes "help", command.Help) ∷
    (codes "version", command.Version) ∷
    (codes "--help", command.Help) ∷
    (codes "--version", command.Version) ∷ [])

-- the command with this word
abbrev pub command_named : List ℕ → Option Command
command_named word = lookup (bytes_eq word) commands
