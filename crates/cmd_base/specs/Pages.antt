-- The page of each command: which words it takes.
use Rattle.std.specs.Prelude.{ℕ, List, [], ◌∷◌, ◌++◌, codes}
use Rattle.cmd_base.specs.declared.command.Command.{Command}
use Rattle.cmd_base.specs.declared.command.Command.TheVariants as command

abbrev pub page : Command → List ℕ
page command.Svscan = codes "dtools svscan [DIR [ROUNDS]]; DIR is the working directory if it is not given" ++ 10 ∷ []
page command.Supervise = codes "dtools supervise DIR" ++ 10 ∷ []
page command.Svc =
    codes "dtools svc [-W] [-udopchaitkx12q] SERVICE..; u up, d down, o once, x exit, and signals" ++ 10 ∷ []
page command.Svstat = codes "dtools svstat [-l] [--json | --metrics | --html] [SERVICE..]" ++ 10 ∷ []
page command.Svok = codes "dtools svok SERVICE" ++ 10 ∷ []
page command.Wait =
    codes "dtools wait [-u|-U|-d|-x|-r] [-t SECONDS] SERVICE..; "
    ++ codes "u up, U ready, d down, x no longer supervised, r restarted" ++ 10 ∷ []
page command.Restart =
    codes "dtools restart [-t SECONDS] SERVICE..; sends TERM, and returns once another process is up" ++ 10 ∷ []
page command.Multilog =
    codes "dtools multilog ACTION..: t, -PATTERN, +PATTERN, e, =FILE, sSIZE, nNUMBER, folders" ++ 10 ∷ []
page command.Tai64n = codes "dtools tai64n" ++ 10 ∷ []
page command.Tai64nlocal = codes "dtools tai64nlocal" ++ 10 ∷ []
page command.Envdir = codes "dtools envdir DIR PROGRAM WORDS.., or dtools envdir --shell DIR [ENVIRON [PROGRAM WORDS..]]" ++ 10 ∷ []
page command.Readproctitle = codes "dtools readproctitle WORD..; the last word is as long as the title" ++ 10 ∷ []
page command.Sim = codes "dtools sim, with a script on standard input, or dtools sim table" ++ 10 ∷ []
page command.Trace =
    codes "dtools trace FILE|SERVICE [--break SPEC] [--local]; SPEC is byte:C, phase:PHASE or signal:NAME"
    ++ 10 ∷ []
page command.Why = codes "dtools why [--timeline] SERVICE.." ++ 10 ∷ []
page command.Help = codes "dtools help [COMMAND]" ++ 10 ∷ []
page command.Version = codes "dtools version" ++ 10 ∷ []
