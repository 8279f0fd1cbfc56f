-- What a store over folders holds, and what it says about it.
use Rattle.std.specs.Prelude.{◌≡◌, ◌⊎◌, ⊤, ℕ, List, [], ◌∷◌, ◌++◌, length, Option, Some, None, IfSome, slice_get}
use Rattle.std.specs.IoError.{error_kind, raw_os_error}
use Rattle.std.specs.declared.io.Error.{Error}
use Rattle.std.specs.declared.io.ErrorKind.TheVariants.{OutOfMemory}
use Rattle.mlog_files.specs.Files.{Files}
use Rattle.mlog_files.specs.Store.{StoreState}
use Rattle.tai_status.specs.Causes.{cause_of}
use Rattle.cmd_multilog.specs.declared.fault.StoreCall.{StoreCall}
use Rattle.cmd_multilog.specs.declared.fault.StoreTrouble.{StoreTrouble}
use Rattle.cmd_multilog.specs.Folder.{Folder, files_of, Begins, Status, given_of}
use Rattle.tai_status.specs.Extended.{Extended}

-- The folders of the logs and the status files, as far as the system reports them; and the alerts. Also the folders
-- that the system was asked for, and the errors from the calls that open these. Also how many calls failed since, and
-- which was the last one, and why.
pub record Shelf : Type 0 where
  pub logs : List (Option Folder)
  pub statuses : List (Option Status)
  pub alerts : Option (List ℕ)
  pub asked : Option (List (List ℕ))
  pub gave : Option (List Error)
  pub failures : ℕ
  pub last : Option StoreTrouble

-- a call that failed with an error, and why
abbrev pub trouble_of : StoreCall → Error → StoreTrouble
trouble_of call error = record { call = call; cause = cause_of (raw_os_error error) (error_kind error) }

-- the files of the log at a place
abbrev pub files_at : Option (Option Folder) → Option Files
files_at None = None
files_at (Some folder) = files_of folder

-- the contents that were given to the status file at a place
abbrev pub given_at : Option (Option Status) → Option (List (List ℕ))
given_at None = None
given_at (Some status) = given_of status

-- the state of the store
abbrev pub state_of : Shelf → StoreState
state_of shelf = record {
  logs = length shelf.logs;
  status_files = length shelf.statuses;
  asked = shelf.asked;
  failures = shelf.failures;
  visible = record {
    files = λ log. files_at (slice_get shelf.logs log);
    statuses = λ file. given_at (slice_get shelf.statuses file);
    alerts = shelf.alerts;
  };
}

-- The shelf is as before, except for what the system was asked for and returned.
pub record AddsNone (old new : Shelf) : Type 0 where
  pub logs : new.logs ≡ old.logs
  pub statuses : new.statuses ≡ old.statuses
  pub alerts : new.alerts ≡ old.alerts
  pub failures : new.failures ≡ old.failures

-- This is the folder at a path, locked and with its current file, and nothing else was done to it.
abbrev pub IsBegunAt : List ℕ → Option Folder → Type 0
IsBegunAt path None = ⊤
IsBegunAt path (Some folder) = (found : Folder) × (found.path ≡ path) × Begins found folder

-- The log in the folder at a path is opened.
pub record OpensLog (old new : Shelf) (path : List ℕ) : Type 0 where
  pub folder : Option Folder
  pub begun : IsBegunAt path folder
  pub logs : new.logs ≡ old.logs ++ folder ∷ []
  pub statuses : new.statuses ≡ old.statuses
  pub alerts : new.alerts ≡ old.alerts
  pub asked : Extended old.asked new.asked (path ∷ [])
  pub failures : new.failures ≡ old.failures

-- The system was asked for the folder at a path.
abbrev pub AsksForOne : Shelf → Shelf → List ℕ → Type 0
AsksForOne old new path = Extended old.asked new.asked (path ∷ [])

-- The system was asked for the folder at a path, which is not opened; or it was not asked, for a lack of memory.
abbrev pub AsksFor : Error → (old new : Shelf) (path : List ℕ) → Type 0
AsksFor error old new path =
    AsksForOne old new path ⊎ ((new.asked ≡ old.asked) × (error_kind error ≡ OutOfMemory))

-- The status file at a path is the next one.
pub record AddsStatus (old new : Shelf) (path : List ℕ) : Type 0 where
  pub status : Option Status
  pub at : IfSome status (λ s. s.path ≡ path)
  pub logs : new.logs ≡ old.logs
  pub statuses : new.statuses ≡ old.statuses ++ status ∷ []
  pub alerts : new.alerts ≡ old.alerts
  pub asked : new.asked ≡ old.asked
  pub failures : new.failures ≡ old.failures
