-- What `help` prints.
use Rattle.std.specs.Prelude.{◌≡◌, ℕ, List, [], ◌∷◌, ◌++◌, bytes_eq, codes, map, Option}
use Rattle.std.specs.Map.{lookup}
use Rattle.cmd_base.specs.Printed.{printed}
use Rattle.cmd_base.specs.Pages.{page}
use Rattle.sup_core.specs.Rules.{Control, controls, letters}
use Rattle.cmd_base.specs.declared.command.Command.{Command}
use Rattle.cmd_base.specs.declared.command.Command.TheVariants as command

-- the commands, one on each line
abbrev pub overview : List ℕ
overview = printed (
    codes "dtools COMMAND WORDS..: supervision and logging of services" ∷
    codes "  svscan         keeps the services of a folder running" ∷
    codes "  supervise      keeps one service running" ∷
    codes "  svc            controls services" ∷
    codes "  svstat         shows the state of services" ∷
    codes "  svok           says whether a service is supervised" ∷
    codes "  wait           returns once services are up, ready, down, restarted, or no longer supervised" ∷
    codes "  restart        ends the processes of services, and returns once others are up" ∷
    codes "  multilog       logs lines into folders" ∷
    codes "  tai64n         puts a label before each line" ∷
    codes "  tai64nlocal    shows labels as local times" ∷
    codes "  envdir         runs a program in the environment that a folder holds" ∷
    codes "  readproctitle  keeps the last bytes of its input" ∷
    codes "  sim            replies to a script of events as supervise would" ∷
    codes "  trace          explains the last events of a service" ∷
    codes "  why            says in plain words which state a service is in, and why" ∷
    codes "  help COMMAND   shows the words of a command; man dtools-COMMAND has the rest" ∷
    codes "  version        says which dtools this is" ∷ [])

-- the page of `svc`, with the letter of each control byte; and the law that it has them all
abbrev pub svc_page : List ℕ
svc_page = codes "dtools svc [-W] [-" ++ letters ++ codes "] SERVICE..; u up, d down, o once, x exit, and signals"

abbrev pub SvcPageHasEachLetter : Type 0
SvcPageHasEachLetter = page command.Svc ≡ printed (svc_page ∷ [])

-- a control byte, and what it means
abbrev pub letter_line : Control → List ℕ
letter_line row = codes "  " ++ row.letter ++ codes "  " ++ row.meaning

-- what `help` prints about a command: its page, and for `svc` also one line for each control byte
abbrev pub help_of : Command → List ℕ
help_of command.Svc = printed (svc_page ∷ map letter_line controls)
help_of command = page command

-- The programs that are installed next to `dtools` and are not its commands, each with what `help` prints about it.
abbrev pub tools : List (List ℕ × List ℕ)
tools = (
    (codes "svwait", page command.Wait) ∷
    (codes "svrestart", page command.Restart) ∷
    (codes "setuidgid", codes "setuidgid ACCOUNT PROGRAM WORDS.." ++ 10 ∷ []) ∷
    (codes "envuidgid", codes "envuidgid ACCOUNT PROGRAM WORDS.." ++ 10 ∷ []) ∷
    (codes "softlimit", codes "softlimit [-acdflmoprst LIMIT].. PROGRAM WORDS.." ++ 10 ∷ []) ∷
    (codes "setlock", codes "setlock [-nNxX] FILE PROGRAM WORDS.." ++ 10 ∷ []) ∷
    (codes "pgrphack", codes "pgrphack PROGRAM WORDS.." ++ 10 ∷ []) ∷
    (codes "fghack", codes "fghack PROGRAM WORDS.." ++ 10 ∷ []) ∷
    (codes "svscan-run", codes "svscan-run [DIR]" ++ 10 ∷ []) ∷
    (codes "dtools-service", codes "dtools-service --add FOLDER [NAME], --remove NAME, --list [NAME]" ++ 10 ∷ []) ∷ [])

-- what `help` prints about such a program
abbrev pub tool_page : (name : List ℕ) → Option (List ℕ)
tool_page name = lookup (bytes_eq name) tools
