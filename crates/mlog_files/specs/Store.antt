-- A store, and what its calls do.
use Rattle.std.specs.Prelude.{◌≡◌, ◌≢◌, ℕ, ◌<◌, ◌≤◌, List, [], ◌++◌, length, take, Option, Some, None, ⊤}
use Rattle.std.specs.Io.KnownBytes.{Appends}
use Rattle.tai_status.specs.Counted.{Rose}
use Rattle.mlog_files.specs.Files.{Files, Step, files_after, append_steps}

-- What a store shows: the files of each log, the contents that each status file was given, in order, and all alerts. It
-- may show only some of these.
pub record Visible : Type 0 where
  pub files : ℕ → Option Files
  pub statuses : ℕ → Option (List (List ℕ))
  pub alerts : Option (List ℕ)

-- A store: how many logs and how many status files it has; the folders that it asked the system for, in order, if
-- visible; how many of its calls failed; and what it shows.
pub record StoreState : Type 0 where
  pub logs : ℕ
  pub status_files : ℕ
  pub asked : Option (List (List ℕ))
  pub failures : ℕ
  pub visible : Visible

-- The numbers of logs and status files are as before, no folder was asked for, and no failed call is forgotten.
pub record Stays (old new : StoreState) : Type 0 where
  pub logs : new.logs ≡ old.logs
  pub status_files : new.status_files ≡ old.status_files
  pub asked : new.asked ≡ old.asked
  pub steady : old.failures ≤ new.failures

-- Files that are visible went through these steps. A store may stop showing them, and then never resumes.
abbrev pub Reaches : Option Files → Option Files → List Step → Type 0
Reaches None None steps = ⊤
Reaches None (Some new) steps = ⊥
Reaches (Some old) None steps = ⊤
Reaches (Some old) (Some new) steps = new ≡ files_after steps old

-- One log went through these steps, and all else is as before.
pub record Does (old new : StoreState) (log : ℕ) (steps : List Step) : Type 0 where
  pub here : Reaches (old.visible.files log) (new.visible.files log) steps
  pub others : (other : ℕ) → other ≢ log → new.visible.files other ≡ old.visible.files other
  pub statuses : new.visible.statuses ≡ old.visible.statuses
  pub alerts : new.visible.alerts ≡ old.visible.alerts
  pub stays : Stays old new

-- One log went through a prefix of these steps, and all else is as before.
pub record DoesFront (old new : StoreState) (log : ℕ) (steps : List Step) : Type 0 where
  pub count : ℕ
  pub front : Does old new log (take count steps)

-- The store failed while a log went through these steps: a prefix of them is done, and the failure is counted.
pub record Fails (old new : StoreState) (log : ℕ) (steps : List Step) : Type 0 where
  pub front : DoesFront old new log steps
  pub rose : Rose old.failures new.failures

-- A log went through some steps. They and the bytes that wait afterwards are, together, the bytes that waited before
-- and then these steps.
pub record Goes (old new : StoreState) (log : ℕ) (waited waits : List ℕ) (steps : List Step) : Type 0 where
  pub done : List Step
  pub does : Does old new log done
  pub whole : done ++ append_steps waits ≡ append_steps waited ++ steps

-- This many bytes of a piece were appended to a log's current file. If there are bytes and none was appended, a failure
-- is counted.
pub record AppendsPart (old new : StoreState) (log : ℕ) (piece : List ℕ) (count : ℕ) : Type 0 where
  pub within : count ≤ length piece
  pub does : Does old new log (append_steps (take count piece))
  pub none : count ≡ 0 → 0 < length piece → Rose old.failures new.failures

-- A call for a log failed: nothing is done, and the failure is counted.
pub record FailsAt (old new : StoreState) (log : ℕ) : Type 0 where
  pub nothing : Does old new log []
  pub rose : Rose old.failures new.failures

-- A status file that is visible was given these contents, one after another. It stays visible.
abbrev pub WasGiven : Option (List (List ℕ)) → Option (List (List ℕ)) → List (List ℕ) → Type 0
WasGiven None None contents = ⊤
WasGiven None (Some new) contents = ⊥
WasGiven (Some old) None contents = ⊥
WasGiven (Some old) (Some new) contents = new ≡ old ++ contents

-- One status file was given these contents, and all else is as before.
pub record Replaces (old new : StoreState) (file : ℕ) (contents : List (List ℕ)) : Type 0 where
  pub here : WasGiven (old.visible.statuses file) (new.visible.statuses file) contents
  pub others : (other : ℕ) → other ≢ file → new.visible.statuses other ≡ old.visible.statuses other
  pub files : new.visible.files ≡ old.visible.files
  pub alerts : new.visible.alerts ≡ old.visible.alerts
  pub stays : Stays old new

-- A status file was not replaced: it was given nothing, and the failure is counted.
pub record FailsToReplace (old new : StoreState) (file : ℕ) : Type 0 where
  pub nothing : Replaces old new file []
  pub rose : Rose old.failures new.failures

-- This text was alerted, and all else is as before.
pub record Alerts (old new : StoreState) (piece : List ℕ) : Type 0 where
  pub here : Appends old.visible.alerts new.visible.alerts piece
  pub files : new.visible.files ≡ old.visible.files
  pub statuses : new.visible.statuses ≡ old.visible.statuses
  pub stays : Stays old new

-- This many bytes of a piece were alerted. If there are bytes and none was alerted, a failure is counted.
pub record AlertsPart (old new : StoreState) (piece : List ℕ) (count : ℕ) : Type 0 where
  pub within : count ≤ length piece
  pub alerts : Alerts old new (take count piece)
  pub none : count ≡ 0 → 0 < length piece → Rose old.failures new.failures

-- An alert failed: nothing is alerted, and the failure is counted.
pub record FailsToAlert (old new : StoreState) : Type 0 where
  pub nothing : Alerts old new []
  pub rose : Rose old.failures new.failures
