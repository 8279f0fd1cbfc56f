-- The folder of a log, as the system reports it, and what calls do to it.
use Rattle.std.specs.Prelude.{◌≡◌, ◌⊎◌, ⊤, ℕ, Bool, true, false, if◌then◌else◌, List, [], ◌∷◌, ◌++◌, map, length}
use Rattle.std.specs.Prelude.{bytes_eq, unwrap_or, Option, Some, None, IfSome, MatchOption}
use Rattle.std.specs.List.{list_any}
use Rattle.std.specs.Option.{option_map}
use Rattle.std.specs.IoError.{error_kind}
use Rattle.std.specs.declared.io.Error.{Error}
use Rattle.std.specs.declared.io.ErrorKind.TheVariants.{OutOfMemory}
use Rattle.tai_status.specs.Extended.{Extended}
use Rattle.mlog_files.specs.Files.{Old, Files, with_old}
use Rattle.cmd_multilog.specs.Names.{old_names}

-- A folder: its path; whether this process holds its lock; its current file, if it has one, and whether all of that is
-- certainly on the disk. Its old files are in byte order of their names.
pub record Folder : Type 0 where
  pub path : List ℕ
  pub locked : Bool
  pub current : Option (List ℕ)
  pub synced : Bool
  pub olds : List Old

-- the files of a log in a folder; none are reported while it has no current file
abbrev pub files_in : Folder → Option Files
files_in folder = option_map (λ bytes. record { current = bytes; olds = folder.olds }) folder.current

abbrev pub files_of : Option Folder → Option Files
files_of None = None
files_of (Some folder) = files_in folder

-- A folder that is reported changes this way. It is still reported afterwards.
abbrev pub Changes : Option Folder → Option Folder → (Folder → Folder → Type 0) → Type 0
Changes None None change = ⊤
Changes None (Some new) change = ⊥
Changes (Some old) None change = ⊥
Changes (Some old) (Some new) change = change old new

-- Calls

-- This process takes the lock.
abbrev pub Locks : Folder → Folder → Type 0
Locks old new = new ≡ record {
  path = old.path;
  locked = true;
  current = old.current;
  synced = old.synced;
  olds = old.olds;
}

-- The current file is opened, and made if it is missing.
abbrev pub Opens : Folder → Folder → Type 0
Opens old new = new ≡ record {
  path = old.path;
  locked = old.locked;
  current = Some (unwrap_or old.current []);
  synced = false;
  olds = old.olds;
}

-- This piece is appended to the current file, which exists.
abbrev pub Extends : List ℕ → Folder → Folder → Type 0
Extends piece old new = MatchOption old.current ⊥ (λ bytes. new ≡ record {
  path = old.path;
  locked = old.locked;
  current = Some (bytes ++ piece);
  synced = false;
  olds = old.olds;
})

-- All of the current file is written out to the disk.
abbrev pub Syncs : Folder → Folder → Type 0
Syncs old new = new ≡ record {
  path = old.path;
  locked = old.locked;
  current = old.current;
  synced = true;
  olds = old.olds;
}

-- whether an old file has this name
abbrev pub has_old : List ℕ → List Old → Bool
has_old name olds = list_any (λ old. bytes_eq name old.name) olds

-- The current file, which exists, becomes the old file with a name that no old file has.
abbrev pub Renames : List ℕ → Folder → Folder → Type 0
Renames name old new = (has_old name old.olds ≡ false) × MatchOption old.current ⊥ (λ bytes. new ≡ record {
  path = old.path;
  locked = old.locked;
  current = None;
  synced = false;
  olds = with_old (record { name = name; bytes = bytes }) old.olds;
})

-- the old files without the first one with this name
abbrev pub without : List ℕ → List Old → List Old
without name [] = []
without name (old ∷ olds) = if bytes_eq name old.name then olds else old ∷ without name olds

-- The old file with a name is removed.
abbrev pub Removes : List ℕ → Folder → Folder → Type 0
Removes name old new = new ≡ record {
  path = old.path;
  locked = old.locked;
  current = old.current;
  synced = old.synced;
  olds = without name old.olds;
}

-- The folder is locked, and its current file is opened.
abbrev pub Begins : Folder → Folder → Type 0
Begins old new = new ≡ record {
  path = old.path;
  locked = true;
  current = Some (unwrap_or old.current []);
  synced = false;
  olds = old.olds;
}

-- Why a log is not opened: a call for its folder returned this error, and no other call failed; or none failed, and
-- there was no memory.
abbrev pub IsCause : Error → (past now : Option (List Error)) → Type 0
IsCause error past now =
    Extended past now (error ∷ []) ⊎ ((now ≡ past) × (error_kind error ≡ OutOfMemory))

-- Conditions, and what is read

-- This process holds the lock.
abbrev pub IsLocked : Option Folder → Type 0
IsLocked folder = IfSome folder (λ f. f.locked ≡ true)

-- All of the current file is on the disk.
abbrev pub IsSynced : Option Folder → Type 0
IsSynced folder = IfSome folder (λ f. f.synced ≡ true)

-- The current file has this length.
abbrev pub HasLength : Option Folder → ℕ → Type 0
HasLength folder len = IfSome folder (λ f. IfSome f.current (λ bytes. len ≡ length bytes))

-- Those of these names that are names of old files are the folder's.
abbrev pub HasNames : Option Folder → List (List ℕ) → Type 0
HasNames folder names = IfSome folder (λ f. old_names names ≡ map (λ old. old.name) f.olds)

-- The folder is locked, these are the names of its old files, and its current file has this length.
abbrev pub IsKept : Option Folder → List (List ℕ) → ℕ → Type 0
IsKept None names len = ⊤
IsKept (Some folder) names len = (folder.locked ≡ true) × (names ≡ map (λ old. old.name) folder.olds)
    × IfSome folder.current (λ bytes. len ≡ length bytes)

-- The folder stays at its path.
abbrev pub StaysAt : Option Folder → Option Folder → Type 0
StaysAt None None = ⊤
StaysAt None (Some new) = ⊥
StaysAt (Some old) None = ⊥
StaysAt (Some old) (Some new) = new.path ≡ old.path

-- Status files

-- a status file: its path, and the contents that it was given; it has the last one
pub record Status : Type 0 where
  pub path : List ℕ
  pub given : List (List ℕ)

abbrev pub given_of : Option Status → Option (List (List ℕ))
given_of status = option_map (λ s. s.given) status

-- The file was given this content, once. It is still reported afterwards.
abbrev pub Receives : Option Status → Option Status → List ℕ → Type 0
Receives None None content = ⊤
Receives None (Some new) content = ⊥
Receives (Some old) None content = ⊥
Receives (Some old) (Some new) content = new ≡ record { path = old.path; given = old.given ++ content ∷ [] }
