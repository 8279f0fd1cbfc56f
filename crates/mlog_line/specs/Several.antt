-- What several calls of a store do.
use Rattle.std.specs.Prelude.{◌≡◌, ℕ, List, [], ◌∷◌, if◌then◌else◌, Bool}
use Rattle.tai_status.specs.Counted.{AppendsFront, Rose}
use Rattle.mlog_script.specs.Selection.{flag_at}
use Rattle.mlog_files.specs.Store.{StoreState, Stays, WasGiven}
use Rattle.mlog_line.specs.Outputs.{GivenFront}

-- The store failed during an alert: a prefix of this text was alerted, all else is as before, and the failure is
-- counted.
pub record AlertsFront (old new : StoreState) (text : List ℕ) : Type 0 where
  pub here : AppendsFront old.visible.alerts new.visible.alerts text
  pub files : new.visible.files ≡ old.visible.files
  pub statuses : new.visible.statuses ≡ old.visible.statuses
  pub stays : Stays old new
  pub rose : Rose old.failures new.failures

-- the contents that a status file is given, if this content goes to each one with a set flag
abbrev pub given_to : ℕ → List Bool → List ℕ → List (List ℕ)
given_to file chosen content = if flag_at chosen file then content ∷ [] else []

-- Each status file with a set flag was given this content, once, and all else is as before.
pub record Replaced (old new : StoreState) (chosen : List Bool) (content : List ℕ) : Type 0 where
  pub here : (file : ℕ)
      → WasGiven (old.visible.statuses file) (new.visible.statuses file) (given_to file chosen content)
  pub files : new.visible.files ≡ old.visible.files
  pub alerts : new.visible.alerts ≡ old.visible.alerts
  pub stays : Stays old new

-- The store failed at the status files. Some of those with a set flag were given this content, once; all else is as
-- before; and the failure is counted.
pub record ReplacedSome (old new : StoreState) (chosen : List Bool) (content : List ℕ) : Type 0 where
  pub here : (file : ℕ)
      → GivenFront (old.visible.statuses file) (new.visible.statuses file) (given_to file chosen content)
  pub files : new.visible.files ≡ old.visible.files
  pub alerts : new.visible.alerts ≡ old.visible.alerts
  pub stays : Stays old new
  pub rose : Rose old.failures new.failures
