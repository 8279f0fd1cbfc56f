-- How `svstat --json` ends: each service is looked at, and then its line is written.
use Rattle.std.specs.Prelude.{◌≡◌, ◌⊎◌, ℕ, List, [], ◌∷◌, ◌++◌, codes, Option}
use Rattle.tai_status.specs.Counted.{Device, Reports, Works, Wrote}
use Rattle.svc_client.specs.Calls.{Call}
use Rattle.cmd_svc.specs.Missing.{TellsEach, telling}
use Rattle.svc_client.specs.Sight.{Sight, sight}
use Rattle.cmd_svc.specs.Svstat.{Scene, WritesNot, scene, svstat_report}
use Rattle.svc_client.specs.Turns.{InTurn}
use Rattle.cmd_svc.specs.declared.svstat.SvstatFault.{SvstatFault}
use Rattle.cmd_report.specs.Finds.{FindsOne}
use Rattle.cmd_report.specs.Json.{json_line}
use Rattle.cmd_report.specs.declared.found.FoundService.{FoundService}

-- The service in a folder was looked at, and then the line about what was found was written.
pub record Shows (folder : List ℕ) (old new : Scene) : Type 0 where
  pub found : FoundService
  pub folder_is : found.folder.now ≡ folder
  pub finds : FindsOne found old.sight new.sight
  pub wrote : Wrote old.writer new.writer (json_line found ++ 10 ∷ [])
  pub works : Works old.writer new.writer

-- The service in a folder was looked at, and the line about what was found was not written.
pub record ShowsNot (folder : List ℕ) (cause : SvstatFault) (old new : Scene) : Type 0 where
  pub found : FoundService
  pub folder_is : found.folder.now ≡ folder
  pub finds : FindsOne found old.sight new.sight
  pub unwritten : WritesNot cause (json_line found ++ 10 ∷ []) old.writer new.writer

-- The words before one have their lines, and that one has none. The words after it are not looked at.
pub record ShowsUpTo (words : List (List ℕ)) (old new : Scene) (cause : SvstatFault) : Type 0 where
  pub before : List (List ℕ)
  pub folder : List ℕ
  pub after : List (List ℕ)
  pub words_are : words ≡ before ++ folder ∷ after
  pub middle : Scene
  pub shown : InTurn Shows before old middle
  pub fails : ShowsNot folder cause middle new

-- Each word has its line. Then it is reported for each folder that does not exist why, and nothing else is reported.
pub record ShowsAll (words : List (List ℕ)) (status : ℕ) (old new : Scene) (faults reports : Device)
    : Type 0 where
  pub asked : Option (List Call)
  pub status_is : status ≡ 0
  pub lines : InTurn Shows words old (scene (sight asked new.sight.readings) new.writer)
  pub told : TellsEach (codes "svstat: ") words (telling asked faults) (telling new.sight.calls reports)

-- A line could not be written, and it is reported why.
pub record Stops (words : List (List ℕ)) (status : ℕ) (old new : Scene) (faults reports : Device)
    : Type 0 where
  pub cause : SvstatFault
  pub stops : ShowsUpTo words old new cause
  pub status_is : status ≡ 111
  pub reported : Reports faults reports (svstat_report cause new.writer)

-- How `svstat --json` ends, by the words after that one
abbrev pub JsonEnds : (words : List (List ℕ)) (status : ℕ) (sight sees : Sight)
    (writer writes faults reports : Device) → Type 0
JsonEnds words status sight sees writer writes faults reports =
    ShowsAll words status (scene sight writer) (scene sees writes) faults reports
    ⊎ Stops words status (scene sight writer) (scene sees writes) faults reports
