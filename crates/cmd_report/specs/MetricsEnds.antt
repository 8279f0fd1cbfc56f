-- How `svstat --metrics` ends: all services are looked at, and then everything is written.
use Rattle.std.specs.Prelude.{◌≡◌, ◌⊎◌, ℕ, List, codes, Option}
use Rattle.tai_status.specs.Counted.{Device, Fails, Reports, Works, Wrote, WroteFront}
use Rattle.svc_client.specs.Calls.{Call}
use Rattle.cmd_svc.specs.Missing.{TellsEach, telling}
use Rattle.svc_client.specs.Sight.{Sight, sight}
use Rattle.cmd_svc.specs.Svstat.{Scene, scene, svstat_report}
use Rattle.cmd_svc.specs.declared.svstat.SvstatFault.TheVariants as why
use Rattle.cmd_report.specs.Metrics.{metrics_text}
use Rattle.cmd_report.specs.Finds.{FindsFront, FindsWords}
use Rattle.cmd_report.specs.declared.found.FoundService.{FoundService}

-- Each word was looked at, and everything was written. Then it is reported for each folder that does not exist why, and
-- nothing else is reported.
pub record WritesAll (words : List (List ℕ)) (status : ℕ) (old new : Scene)
    (faults reports : Device) : Type 0 where
  pub founds : List FoundService
  pub asked : Option (List Call)
  pub finds : FindsWords words founds old.sight (sight asked new.sight.readings)
  pub wrote : Wrote old.writer new.writer (metrics_text founds)
  pub works : Works old.writer new.writer
  pub status_is : status ≡ 0
  pub told : TellsEach (codes "svstat: ") words (telling asked faults) (telling new.sight.calls reports)

-- Each word was looked at, and the writer failed after a front of the text.
pub record WritesFront (words : List (List ℕ)) (status : ℕ) (old new : Scene)
    (faults reports : Device) : Type 0 where
  pub founds : List FoundService
  pub finds : FindsWords words founds old.sight new.sight
  pub wrote : WroteFront old.writer new.writer (metrics_text founds)
  pub fails : Fails old.writer new.writer
  pub status_is : status ≡ 111
  pub reported : Reports faults reports (svstat_report why.Write new.writer)

-- There was no memory, and nothing was written.
pub record WritesNothing (words : List (List ℕ)) (status : ℕ) (old new : Scene)
    (faults reports : Device) : Type 0 where
  pub finds : FindsFront words old.sight new.sight
  pub unwritten : new.writer ≡ old.writer
  pub status_is : status ≡ 111
  pub reported : Reports faults reports (svstat_report why.OutOfMemory new.writer)

-- How `svstat --metrics` ends: everything was written, or a front, or nothing.
abbrev pub WritesMetrics : (words : List (List ℕ)) (status : ℕ) (old new : Scene)
    (faults reports : Device) → Type 0
WritesMetrics words status old new faults reports =
    WritesAll words status old new faults reports
    ⊎ (WritesFront words status old new faults reports ⊎ WritesNothing words status old new faults reports)

abbrev pub MetricsEnds : (words : List (List ℕ)) (status : ℕ) (sight sees : Sight)
    (writer writes faults reports : Device) → Type 0
MetricsEnds words status sight sees writer writes faults reports =
    WritesMetrics words status (scene sight writer) (scene sees writes) faults reports
