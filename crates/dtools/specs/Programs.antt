-- How the program ends, by its words. The first one names the command, and the words after it are its own.
use Rattle.std.specs.Prelude.{◌≡◌, ℕ, ℤ, List, [], ◌∷◌, ◌++◌, codes, Option, Some, None, ⊤}
use Rattle.tai_status.specs.Counted.{Reports}
use Rattle.cmd_base.specs.Known.{KnownFiles}
use Rattle.svc_places.specs.Places.{KnownPlaces}
use Rattle.cmd_envdir.specs.System.{Launch, SystemState}
use Rattle.cmd_base.specs.Commands.{command_named}
use Rattle.cmd_base.specs.declared.command.Command.{Command}
use Rattle.cmd_multilog.specs.Shelf.{Shelf}
use Rattle.mlog_core.specs.Feed.{Feed}
use Rattle.cmd_why.specs.Texts.{Knowledge}
use Rattle.cmd_wait.specs.Steps.{Step}
use Rattle.svscan_rounds.specs.Calls.{Call}
use Rattle.dtools.specs.Commands.{ChildEnds, Equipment, Leaves, LoggerEnds, PacedEnds, PlainEnds, ReasonEnds, ScanEnds}
use Rattle.dtools.specs.Commands.{ServiceEnds, ZonedEnds}

-- what is reported if no word names a command
abbrev pub no_command_report : List ℕ
no_command_report = codes "dtools: usage" ++ 10 ∷ codes "dtools help lists the commands" ++ 10 ∷ []

-- There is no command: this is reported, and the status is 100.
pub record Refuses (text : List ℕ) (status : ℕ) (old new : Equipment) : Type 0 where
  pub status_is : status ≡ 100
  pub unread : new.console.reader ≡ old.console.reader
  pub unwritten : new.console.writer ≡ old.console.writer
  pub reported : Reports old.console.faults new.console.faults text
  pub unasked : new.sight ≡ old.sight

-- What holds for a command and its words, if the word before them names one; otherwise, what holds for an unknown name.
abbrev pub OfNamed : Option Command → (unknown : Type 0) (of : Command → Type 0) → Type 0
OfNamed None unknown of = unknown
OfNamed (Some command) unknown of = of command

-- What holds by the words: if there are none, if the first one names no command, and for the command that it names.
abbrev pub ByWords : (words : List (List ℕ)) (none unknown : Type 0)
    (of : Command → (words : List (List ℕ)) → Type 0) → Type 0
ByWords [] none unknown of = none
ByWords (word ∷ words) none unknown of = OfNamed (command_named word) unknown (λ command. of command words)

abbrev pub LeftAlone : (words : List (List ℕ)) (old new : Equipment) → Type 0
LeftAlone words old new = ByWords words ⊤ ⊤ (λ command words. Leaves command old new)

abbrev pub PlainProgram : (words : List (List ℕ)) (status : ℕ) (old new : Equipment) → Type 0
PlainProgram words status old new =
    ByWords words (Refuses no_command_report status old new) (Refuses no_command_report status old new)
    (λ command words. PlainEnds command words status old new)

abbrev pub ZonedProgram : (words : List (List ℕ)) (status : ℕ) (ahead : ℤ → ℤ) (files : KnownFiles)
    (places : KnownPlaces) (old new : Equipment) → Type 0
ZonedProgram words status ahead files places old new =
    ByWords words ⊤ ⊤ (λ command words. ZonedEnds command words status ahead files places old new)

abbrev pub ChildProgram : (words : List (List ℕ)) (status : ℕ) (system : SystemState) (past now : Option (List Launch))
    (old new : Equipment) → Type 0
ChildProgram words status system past now old new =
    ByWords words (now ≡ past) (now ≡ past) (λ command words. ChildEnds command words status system past now old new)

abbrev pub LoggerProgram : (words : List (List ℕ)) (status : ℕ) (shelf shelves : Shelf) (feed feeds : Feed)
    (old new : Equipment) → Type 0
LoggerProgram words status shelf shelves feed feeds old new =
    ByWords words ((shelves ≡ shelf) × (feeds ≡ feed)) ((shelves ≡ shelf) × (feeds ≡ feed))
    (λ command words. LoggerEnds command words status shelf shelves feed feeds old new)

abbrev pub ServiceProgram : (words : List (List ℕ)) (status : ℕ) (known : Knowledge) (old new : Equipment) → Type 0
ServiceProgram words status known old new =
    ByWords words ⊤ ⊤ (λ command words. ServiceEnds command words status known old new)

abbrev pub ReasonProgram : (words : List (List ℕ)) (status : ℕ) (known : Knowledge) (old new : Equipment) → Type 0
ReasonProgram words status known old new =
    ByWords words ⊤ ⊤ (λ command words. ReasonEnds command words status known old new)

abbrev pub PacedProgram : (words : List (List ℕ)) (status : ℕ) (steps taken : Option (List Step)) (old new : Equipment)
    → Type 0
PacedProgram words status steps taken old new =
    ByWords words (taken ≡ steps) (taken ≡ steps) (λ command words. PacedEnds command words status steps taken old new)

abbrev pub ScanProgram : (words : List (List ℕ)) (status : ℕ) (past now : Option (List Call)) (old new : Equipment)
    → Type 0
ScanProgram words status past now old new =
    ByWords words (now ≡ past) (now ≡ past) (λ command words. ScanEnds command words status past now old new)
