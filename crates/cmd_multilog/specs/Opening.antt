-- How the logs and status files of a script are opened.
use Rattle.std.specs.Prelude.{◌≡◌, ◌≢◌, ◌⊎◌, ℕ, ◌<◌, ◌≤◌, ◌+◌, ⊤, List, [], ◌∷◌, ◌++◌, take, map, length}
use Rattle.std.specs.Prelude.{Option, IfSome}
use Rattle.std.specs.IoError.{error_kind, raw_os_error}
use Rattle.std.specs.declared.io.Error.{Error}
use Rattle.std.specs.declared.io.ErrorKind.TheVariants as kind
use Rattle.tai_status.specs.Causes.{cause_of}
use Rattle.tai_status.specs.declared.cause.Cause.{Cause}
use Rattle.mlog_script.specs.Script.{Act, log_plans, file_paths}
use Rattle.cmd_multilog.specs.Folder.{Folder, Status}
use Rattle.tai_status.specs.Extended.{Extended}
use Rattle.cmd_multilog.specs.Shelf.{Shelf, IsBegunAt}
use Rattle.cmd_multilog.specs.declared.fault.OpenFault.{OpenFault}
use Rattle.cmd_multilog.specs.declared.fault.OpenFault.TheVariants as why

-- the folders of the logs of a script, in order
abbrev pub folders_of : List Act → List (List ℕ)
folders_of script = map (λ plan. plan.folder) (log_plans script)

-- These are the folders at these paths, each locked and with its current file, and nothing else was done to them.
abbrev pub AllBegun : List (List ℕ) → List (Option Folder) → Type 0
AllBegun [] [] = ⊤
AllBegun [] (folder ∷ folders) = ⊥
AllBegun (path ∷ paths) [] = ⊥
AllBegun (path ∷ paths) (folder ∷ folders) = IsBegunAt path folder × AllBegun paths folders

-- These are the status files at these paths.
abbrev pub AllPlaced : List (List ℕ) → List (Option Status) → Type 0
AllPlaced [] [] = ⊤
AllPlaced [] (status ∷ statuses) = ⊥
AllPlaced (path ∷ paths) [] = ⊥
AllPlaced (path ∷ paths) (status ∷ statuses) = IfSome status (λ s. s.path ≡ path) × AllPlaced paths statuses

-- The logs in the folders at these paths were opened, in order, and the status files at these paths were placed. The
-- system was asked for the folders at these paths. Everything else is as before.
pub record Opens (old new : Shelf) (paths files asked : List (List ℕ)) : Type 0 where
  pub folders : List (Option Folder)
  pub placed : List (Option Status)
  pub all_begun : AllBegun paths folders
  pub all_placed : AllPlaced files placed
  pub logs : new.logs ≡ old.logs ++ folders
  pub statuses : new.statuses ≡ old.statuses ++ placed
  pub alerts : new.alerts ≡ old.alerts
  pub asked_for : Extended old.asked new.asked asked
  pub failures : new.failures ≡ old.failures

-- Why the log with this number is not opened, from the error: there is no memory, or it can't be opened.
abbrev pub IsFault : Error → (log : ℕ) → OpenFault → Type 0
IsFault error log fault =
    ((error_kind error ≡ kind.OutOfMemory) × (fault ≡ why.OutOfMemory))
    ⊎ ((error_kind error ≢ kind.OutOfMemory)
    × (fault ≡ why.Unopened log (cause_of (raw_os_error error) (error_kind error))))

-- One call to open folders failed, not for a lack of memory, but for this cause.
pub record OneRefused (cause : Cause) (past now : Option (List Error)) : Type 0 where
  pub error : Error
  pub gave : Extended past now (error ∷ [])
  pub kind_is : error_kind error ≢ kind.OutOfMemory
  pub cause_is : cause ≡ cause_of (raw_os_error error) (error_kind error)

-- One call to open folders failed, for a lack of memory.
pub record OneLacksMemory (past now : Option (List Error)) : Type 0 where
  pub error : Error
  pub gave : Extended past now (error ∷ [])
  pub kind_is : error_kind error ≡ kind.OutOfMemory

-- No call to open folders failed, except for a lack of memory.
abbrev pub NoneRefused : (past now : Option (List Error)) → Type 0
NoneRefused past now = (now ≡ past) ⊎ OneLacksMemory past now

-- The logs before one were opened, and no more: no folder after that one's was asked for. That one can't be opened if
-- the system refused it. There is a lack of memory only if the system refused none.
abbrev pub OpensUpTo : (old new : Shelf) (script : List Act) → OpenFault → Type 0
OpensUpTo old new script (why.Unopened log cause) =
    (log < length (folders_of script)) × OneRefused cause old.gave new.gave
    × Opens old new (take log (folders_of script)) [] (take (log + 1) (folders_of script))
OpensUpTo old new script why.OutOfMemory =
    (logs : ℕ) × (files : ℕ) × (asked : ℕ) × (asked ≤ logs + 1) × NoneRefused old.gave new.gave
    × Opens old new (take logs (folders_of script)) (take files (file_paths script)) (take asked (folders_of script))
