-- What each command does with the words after its name. It is split into parts, each with what no other command
-- touches. The last part says what a command leaves alone.
use Rattle.std.specs.Prelude.{◌≡◌, ⊤, ℕ, ℤ, List, Bool, true, false, Option}
use Rattle.cmd_base.specs.Console.{Console}
use Rattle.cmd_base.specs.Known.{KnownFiles}
use Rattle.cmd_base.specs.declared.command.Command.{Command}
use Rattle.cmd_base.specs.declared.command.Command.TheVariants as command
use Rattle.svc_places.specs.Places.{KnownPlaces}
use Rattle.cmd_sim.specs.Ends.{SimEnds}
use Rattle.cmd_trace.specs.Traced.{TraceEnds}
use Rattle.cmd_filters.specs.Stamped.{StampsEnd}
use Rattle.cmd_filters.specs.Title.{TitleEnds}
use Rattle.cmd_local.specs.Ends.{LocalEnds}
use Rattle.cmd_help.specs.Ends.{HelpEnds, VersionEnds}
use Rattle.cmd_envdir.specs.System.{Launch, SystemState, outputs}
use Rattle.cmd_envdir.specs.Ends.{EnvdirStarts, EnvdirWrites}
use Rattle.cmd_multilog.specs.Shelf.{Shelf}
use Rattle.mlog_core.specs.Feed.{Feed}
use Rattle.cmd_multilog.specs.Ends.{stage, MultilogEnds}
use Rattle.svc_client.specs.Sight.{Sight}
use Rattle.cmd_svc.specs.Svc.{effects, SvcEnds}
use Rattle.cmd_svc.specs.Svok.{SvokEnds}
use Rattle.cmd_page.specs.Ends.{ViewEnds}
use Rattle.cmd_why.specs.Texts.{Knowledge}
use Rattle.cmd_why.specs.Why.{WhyEnds}
use Rattle.cmd_wait.specs.Steps.{Step, sight}
use Rattle.cmd_wait.specs.Ends as waiting
use Rattle.cmd_wait.specs.Restarting as restarting
use Rattle.svscan_rounds.specs.Calls as handling
use Rattle.svscan_rounds.specs.Rounds as svscan
use Rattle.svscan_rounds.specs.Supervise as supervise

-- What a command may use: its devices, and the services that it asks, with its clock.
pub record Equipment : Type 0 where
  pub console : Console
  pub sight : Sight

-- The commands that need nothing else.
abbrev pub PlainEnds : Command → (words : List (List ℕ)) (status : ℕ) (old new : Equipment) → Type 0
PlainEnds command.Sim words status old new = SimEnds words status old.console new.console
PlainEnds command.Tai64n words status old new =
    StampsEnd words status old.sight.readings new.sight.readings old.console new.console
PlainEnds command.Readproctitle words status old new = TitleEnds words status old.console new.console
PlainEnds command.Help words status old new =
    HelpEnds words status old.console.writer new.console.writer old.console.faults new.console.faults
PlainEnds command.Version words status old new =
    VersionEnds words status old.console.writer new.console.writer old.console.faults new.console.faults
PlainEnds other words status old new = ⊤

-- The commands that know local times, from the number of seconds by which clocks are ahead of UTC, at each second of
-- Unix time. One of them also reads files, which may be known, at the paths that words name.
abbrev pub ZonedEnds : Command → (words : List (List ℕ)) (status : ℕ) (ahead : ℤ → ℤ) (files : KnownFiles)
    (places : KnownPlaces) (old new : Equipment) → Type 0
ZonedEnds command.Tai64nlocal words status ahead files places old new =
    LocalEnds ahead words status old.console new.console
ZonedEnds command.Trace words status ahead files places old new =
    TraceEnds ahead files places words status old.console.writer new.console.writer old.console.faults
    new.console.faults
ZonedEnds other words status ahead files places old new = ⊤

-- Only `envdir` hands over commands to start, from the folders and the variables of the system.
abbrev pub ChildEnds : Command → (words : List (List ℕ)) (status : ℕ) (system : SystemState)
    (past now : Option (List Launch)) (old new : Equipment) → Type 0
ChildEnds command.Envdir words status system past now old new =
    EnvdirStarts system words status past now old.console.faults new.console.faults
    × EnvdirWrites system words status (outputs old.console.writer old.console.faults)
    (outputs new.console.writer new.console.faults)
ChildEnds other words status system past now old new = now ≡ past

-- Only `multilog` keeps logs, in its store, and reads the input of a logger.
abbrev pub LoggerEnds : Command → (words : List (List ℕ)) (status : ℕ) (shelf shelves : Shelf) (feed feeds : Feed)
    (old new : Equipment) → Type 0
LoggerEnds command.Multilog words status shelf shelves feed feeds old new =
    MultilogEnds words status (stage shelf feed old.sight.readings old.console.faults)
    (stage shelves feeds new.sight.readings new.console.faults)
LoggerEnds other words status shelf shelves feed feeds old new = (shelves ≡ shelf) × (feeds ≡ feed)

-- Three of the commands that ask services, and what is known about traces and about local times.
abbrev pub ServiceEnds : Command → (words : List (List ℕ)) (status : ℕ) (known : Knowledge) (old new : Equipment)
    → Type 0
ServiceEnds command.Svc words status known old new =
    SvcEnds words status (effects old.sight.calls old.console.faults) (effects new.sight.calls new.console.faults)
ServiceEnds command.Svstat words status known old new =
    ViewEnds known words status old.sight new.sight old.console.writer new.console.writer old.console.faults
    new.console.faults
ServiceEnds command.Svok words status known old new =
    SvokEnds words status old.sight.calls new.sight.calls × (new.console ≡ old.console)
ServiceEnds other words status known old new = ⊤

-- `why`, and what is known about traces and about local times.
abbrev pub ReasonEnds : Command → (words : List (List ℕ)) (status : ℕ) (known : Knowledge) (old new : Equipment)
    → Type 0
ReasonEnds command.Why words status known old new =
    WhyEnds known words status old.sight new.sight old.console.writer new.console.writer old.console.faults
    new.console.faults
ReasonEnds other words status known old new = ⊤

-- Only `wait` and `restart` have a pace, with these steps.
abbrev pub PacedEnds : Command → (words : List (List ℕ)) (status : ℕ) (steps taken : Option (List Step))
    (old new : Equipment) → Type 0
PacedEnds command.Wait words status steps taken old new =
    waiting.EndsByWords words status (waiting.scene (sight old.sight.calls steps) old.console.faults)
    (waiting.scene (sight new.sight.calls taken) new.console.faults)
PacedEnds command.Restart words status steps taken old new =
    restarting.EndsByWords words status (waiting.scene (sight old.sight.calls steps) old.console.faults)
    (waiting.scene (sight new.sight.calls taken) new.console.faults)
PacedEnds other words status steps taken old new = taken ≡ steps

-- Only `svscan` keeps the services of a folder running, and only `supervise` one service. They make these requests for
-- them.
abbrev pub ScanEnds : Command → (words : List (List ℕ)) (status : ℕ) (past now : Option (List handling.Call))
    (old new : Equipment) → Type 0
ScanEnds command.Svscan words status past now old new =
    svscan.SvscanEnds words status (svscan.effects past old.console.faults) (svscan.effects now new.console.faults)
ScanEnds command.Supervise words status past now old new =
    supervise.SuperviseEnds words status (svscan.effects past old.console.faults) (svscan.effects now new.console.faults)
ScanEnds other words status past now old new = now ≡ past

-- the commands that read the standard input; a logger has an input of its own
abbrev pub reads_input : Command → Bool
reads_input command.Sim = true
reads_input command.Tai64n = true
reads_input command.Tai64nlocal = true
reads_input command.Readproctitle = true
reads_input other = false

-- the commands that print
abbrev pub prints : Command → Bool
prints command.Multilog = false
prints command.Svc = false
prints command.Svok = false
prints command.Wait = false
prints command.Restart = false
prints command.Svscan = false
prints command.Supervise = false
prints other = true

-- the commands that ask services
abbrev pub asks_services : Command → Bool
asks_services command.Svc = true
asks_services command.Svstat = true
asks_services command.Svok = true
asks_services command.Why = true
asks_services command.Wait = true
asks_services command.Restart = true
asks_services other = false

-- the commands that read the clock
abbrev pub reads_clock : Command → Bool
reads_clock command.Tai64n = true
reads_clock command.Multilog = true
reads_clock command.Svstat = true
reads_clock command.Why = true
reads_clock other = false

-- What a command does not get is unchanged.
pub record Leaves (of : Command) (old new : Equipment) : Type 0 where
  pub unread : reads_input of ≡ false → new.console.reader ≡ old.console.reader
  pub unwritten : prints of ≡ false → new.console.writer ≡ old.console.writer
  pub unasked : asks_services of ≡ false → new.sight.calls ≡ old.sight.calls
  pub untimed : reads_clock of ≡ false → new.sight.readings ≡ old.sight.readings
