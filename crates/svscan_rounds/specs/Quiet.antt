-- When a round is idle: a scan would find nothing to do.
use Rattle.std.specs.Prelude.{◌≡◌, ℕ, ◌==◌, ◌&&◌, Bool, true, false, not, if◌then◌else◌, List, [], ◌∷◌}
use Rattle.std.specs.Prelude.{Option, Some, None}
use Rattle.svscan_rounds.specs.declared.quiet.Quiet.{Quiet}

-- the state before anything was read; and whether an activity is this one
abbrev pub fresh : Quiet
fresh = record { activity = 0; whole_at = None; is_idle = false }

abbrev pub is_just : Option ℕ → (activity : ℕ) → Bool
is_just None activity = false
is_just (Some at) activity = at == activity

-- whether nothing has happened to a service since a scan needed no row
abbrev pub is_quiet : Quiet → Bool
is_quiet quiet = is_just quiet.whole_at quiet.activity

-- after the activity was read
abbrev pub read : Quiet → (activity : ℕ) → Quiet
read quiet activity = record { activity = activity; whole_at = quiet.whole_at; is_idle = false }

-- after a look at the folder, which has the same names as before or not, while a part waits to be admitted to the door
-- or none does
abbrev pub looked : Quiet → (has_names any_waits : Bool) → Quiet
looked quiet has_names any_waits = record {
  activity = quiet.activity;
  whole_at = if has_names then quiet.whole_at else None;
  is_idle = is_quiet quiet && has_names && not any_waits;
}

-- after its names were looked through: a scan needs some row, or none
abbrev pub listed : Quiet → (needs_rows : Bool) → Quiet
listed quiet needs_rows = record {
  activity = quiet.activity;
  whole_at = if needs_rows then None else Some quiet.activity;
  is_idle = false;
}

-- after a round: it was refused, or not
abbrev pub scanned : Quiet → (is_refused : Bool) → Quiet
scanned quiet is_refused = record {
  activity = quiet.activity;
  whole_at = if is_refused then None else quiet.whole_at;
  is_idle = false;
}

-- What follows from it

pub data Step : Type 0 where
  Read : (activity : ℕ) → Step
  Looked : (has_names any_waits : Bool) → Step
  Listed : (needs_rows : Bool) → Step
  Scanned : (is_refused : Bool) → Step

-- the state after these steps; the first is the newest
abbrev pub quiet_after : List Step → Quiet
quiet_after [] = fresh
quiet_after (Read activity ∷ earlier) = read (quiet_after earlier) activity
quiet_after (Looked has_names any_waits ∷ earlier) = looked (quiet_after earlier) has_names any_waits
quiet_after (Listed needs_rows ∷ earlier) = listed (quiet_after earlier) needs_rows
quiet_after (Scanned is_refused ∷ earlier) = scanned (quiet_after earlier) is_refused

-- the last activity that was read
abbrev pub activity_after : List Step → ℕ
activity_after [] = 0
activity_after (Read activity ∷ earlier) = activity
activity_after (Looked has_names any_waits ∷ earlier) = activity_after earlier
activity_after (Listed needs_rows ∷ earlier) = activity_after earlier
activity_after (Scanned is_refused ∷ earlier) = activity_after earlier

-- A scan needed no row when this was the activity. Since then the folder had the same names at each look, and no round
-- was refused.
abbrev pub WasWhole : (activity : ℕ) → List Step → Type 0
WasWhole activity [] = ⊥
WasWhole activity (Read later ∷ earlier) = WasWhole activity earlier
WasWhole activity (Looked has_names any_waits ∷ earlier) = (has_names ≡ true) × WasWhole activity earlier
WasWhole activity (Listed true ∷ earlier) = ⊥
WasWhole activity (Listed false ∷ earlier) = activity_after earlier ≡ activity
WasWhole activity (Scanned is_refused ∷ earlier) = (is_refused ≡ false) × WasWhole activity earlier

-- The folder was looked at just now: it has the same names as before, and no part waits to be admitted to the door. A
-- scan needed no row of these names when the activity was the same.
abbrev pub NothingChanged : List Step → Type 0
NothingChanged [] = ⊥
NothingChanged (Read activity ∷ earlier) = ⊥
NothingChanged (Looked has_names any_waits ∷ earlier) =
    (has_names ≡ true) × (any_waits ≡ false) × WasWhole (activity_after earlier) earlier
NothingChanged (Listed needs_rows ∷ earlier) = ⊥
NothingChanged (Scanned is_refused ∷ earlier) = ⊥

-- A round is idle only if nothing has changed.
abbrev pub IdleOnlyUnchanged : Type 0
IdleOnlyUnchanged = (steps : List Step) → (quiet_after steps).is_idle ≡ true → NothingChanged steps
