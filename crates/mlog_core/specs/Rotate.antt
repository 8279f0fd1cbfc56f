-- What a rotation of logs does.
use Rattle.std.specs.Prelude.{◌≡◌, ℕ, List, [], ◌∷◌, slice_get, Option, Some, None}
use Rattle.tai_status.specs.Label.{Tai64n}
use Rattle.tai_status.specs.Extended.{Extended}
use Rattle.tai_status.specs.Counted.{Rose}
use Rattle.mlog_script.specs.Script.{Act, Plan, log_plans}
use Rattle.mlog_files.specs.Files.{Files, Step}
use Rattle.mlog_files.specs.Going.{Standing, rotate_steps, rotated}
use Rattle.mlog_files.specs.Store.{StoreState, Does, Stays, Reaches}
use Rattle.mlog_files.specs.Tails.{found, StopsOn}
use Rattle.mlog_files.specs.declared.tail.LogFault.{LogFault}
use Rattle.mlog_files.specs.declared.tail.LogFault.TheVariants as log_fault
use Rattle.mlog_core.specs.Run.{ReachesFront}

-- The steps that rotate the log of a plan, by its files, if they are visible. A current file that isn't empty is
-- finished, under the label from the clock reading, or the label after the greatest in the names of old files.
abbrev pub rotation : Option Plan → Tai64n → Option Files → List Step
rotation None reading files = []
rotation (Some plan) reading None = []
rotation (Some plan) reading (Some files) = rotate_steps plan.keep (found files) reading

-- the state of the log after a rotation, or none if there is no label
abbrev pub stands_rotated : Option Plan → Tai64n → Option Files → Option Standing
stands_rotated None reading files = None
stands_rotated (Some plan) reading None = None
stands_rotated (Some plan) reading (Some files) = rotated plan.keep (found files) reading

-- The log with this number was rotated, with this reading of the clock.
abbrev pub RotatesLog : (script : List Act) (reading : Tai64n) (log : ℕ) (old new : StoreState) → Type 0
RotatesLog script reading log old new =
    Does old new log (rotation (slice_get (log_plans script) log) reading (old.visible.files log))

-- The log was not rotated, or not completely.
abbrev pub RotatesLogUpTo : (script : List Act) (reading : Tai64n) (log : ℕ) (old new : StoreState) → LogFault → Type 0
RotatesLogUpTo script reading log old new why =
    StopsOn old new log (rotation (slice_get (log_plans script) log) reading (old.visible.files log))
    (stands_rotated (slice_get (log_plans script) log) reading (old.visible.files log)) why

-- All logs of a script were rotated, with one reading of the clock, and nothing else was done.
pub record Rotates (script : List Act) (old new : StoreState) (read reads : Option (List Tai64n)) : Type 0 where
  pub reading : Tai64n
  pub gave : Extended read reads (reading ∷ [])
  pub logs : (log : ℕ) → Reaches (old.visible.files log) (new.visible.files log)
      (rotation (slice_get (log_plans script) log) reading (old.visible.files log))
  pub statuses : new.visible.statuses ≡ old.visible.statuses
  pub alerts : new.visible.alerts ≡ old.visible.alerts
  pub stays : Stays old new

-- Not all logs were rotated: a prefix of the steps of each log is done. Either the store failed, and the failure is
-- counted; or a log has no label for an old file.
pub record RotatesUpTo (script : List Act) (old new : StoreState) (read reads : Option (List Tai64n)) (why : LogFault)
    : Type 0 where
  pub reading : Tai64n
  pub gave : Extended read reads (reading ∷ [])
  pub logs : (log : ℕ) → ReachesFront (old.visible.files log) (new.visible.files log) 0
      (rotation (slice_get (log_plans script) log) reading (old.visible.files log))
  pub statuses : new.visible.statuses ≡ old.visible.statuses
  pub alerts : new.visible.alerts ≡ old.visible.alerts
  pub stays : Stays old new
  pub store : why ≡ log_fault.Store → Rose old.failures new.failures
  pub spent : why ≡ log_fault.LabelsSpent
      → (log : ℕ) × (stands_rotated (slice_get (log_plans script) log) reading (old.visible.files log) ≡ None)
