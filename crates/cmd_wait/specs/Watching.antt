-- What a wait does between two rounds: it rests, and checks whether something changed.
use Rattle.std.specs.Prelude.{◌≡◌, ◌↔◌, ◌⊎◌, ℕ, ◌+◌, ◌-◌, ◌<◌, ◌==◌, nat_lt, max, List, [], ◌∷◌, Option, Some, None}
use Rattle.std.specs.Prelude.{Bool, true, false, not, ◌||◌, if◌then◌else◌, IsTrue}
use Rattle.tai_status.specs.Extended.{Extended}
use Rattle.svc_client.specs.Calls.{Call, SoughtChange}
use Rattle.svc_client.specs.Turns.{InTurn}
use Rattle.cmd_wait.specs.Finding.{entry_folders}
use Rattle.cmd_wait.specs.declared.finding.AwaitedService.{AwaitedService}
use Rattle.cmd_wait.specs.Steps.{Step, Read, Rested, Sight, sight, IsOver}
use Rattle.cmd_wait.specs.declared.watch.Watch.{Watch}
use Rattle.cmd_wait.specs.declared.watch.TheConstants.{MOST_RESTS}

-- When something last changed

-- the newer of two times, if both are known
abbrev pub newer : Option ℕ → Option ℕ → Option ℕ
newer None other = None
newer (Some one) None = None
newer (Some one) (Some other) = Some (max one other)

-- What was learnt about folders so far: when something last changed in one of them, if that is known for each, and the
-- calls.
pub record Learnt : Type 0 where
  pub newest : Option ℕ
  pub calls : Option (List Call)

abbrev pub learnt : (newest : Option ℕ) (calls : Option (List Call)) → Learnt
learnt newest calls = record { newest = newest; calls = calls }

-- It was asked when something last changed in one more folder.
pub record Learns (folder : List ℕ) (old new : Learnt) : Type 0 where
  pub at : Option ℕ
  pub newest : new.newest ≡ newer old.newest at
  pub calls : Extended old.calls new.calls (SoughtChange folder at ∷ [])

-- It was asked once for each of these folders when something last changed, and this is the newest of these times.
abbrev pub LearnsNewest : (folders : List (List ℕ)) (newest : Option ℕ) (old new : Option (List Call)) → Type 0
LearnsNewest folders newest old new = InTurn Learns folders (learnt (Some 0) old) (learnt newest new)

-- When a round is due

-- whether two times are known, and are the same
abbrev pub is_same : Option ℕ → Option ℕ → Bool
is_same None other = false
is_same (Some one) None = false
is_same (Some one) (Some other) = one == other

-- Whether a round is due: something changed since the last note, or the last change is noted for this second.
abbrev pub is_due : Watch → Option ℕ → Bool
is_due watch newest = not (is_same watch.newest newest) || nat_lt 0 watch.lively

-- what is noted then; after a change, rounds are due for a second
abbrev pub next_watch : Watch → Option ℕ → Watch
next_watch watch newest =
    if is_same watch.newest newest then record { newest = watch.newest; lively = watch.lively - 1 }
    else record { newest = newest; lively = MOST_RESTS }

-- the watch at the beginning
abbrev pub first_watch : Watch
first_watch = record { newest = None; lively = 0 }

-- Rests

-- What a wait has done, and what it has noted.
pub record Watched : Type 0 where
  pub watch : Watch
  pub sight : Sight

abbrev pub watched : (watch : Watch) (sight : Sight) → Watched
watched watch sight = record { watch = watch; sight = sight }

-- A rest. After it, it was asked for the services that are left when something last changed, and the clock was read. A
-- round is due if something changed, as said above, and if the time is over.
pub record TakesRest (limit : Option ℕ) (begin : ℕ) (left : List (List ℕ)) (due : Bool) (old new : Watched)
    : Type 0 where
  pub rested : Option (List Step)
  pub newest : Option ℕ
  pub now : ℕ
  pub rests : Extended old.sight.steps rested (Rested ∷ [])
  pub learns : LearnsNewest left newest old.sight.calls new.sight.calls
  pub reads : Extended rested new.sight.steps (Read now ∷ [])
  pub noted : new.watch ≡ next_watch old.watch newest
  pub is : IsTrue due ↔ (IsTrue (is_due old.watch newest) ⊎ IsOver limit begin now)

-- The same, for the entries of the services that are left, and for each value before and after.
abbrev pub Rests : (limit : Option ℕ) (begin : ℕ) (left : List AwaitedService) (due : Bool) (watch watches : Watch)
    (calls asked : Option (List Call)) (steps taken : Option (List Step)) → Type 0
Rests limit begin left due watch watches calls asked steps taken =
    TakesRest limit begin (entry_folders left) due (watched watch (sight calls steps)) (watched watches (sight asked taken))

-- This many rests, and no round was due after any of them.
pub data RestsOn (limit : Option ℕ) (begin : ℕ) (left : List (List ℕ)) (old : Watched)
    : (rests : ℕ) → (now : Watched) → Type 0 where
  none : RestsOn limit begin left old 0 old
  more : {rests : ℕ} {now new : Watched} → RestsOn limit begin left old rests now
      → TakesRest limit begin left false now new
      → RestsOn limit begin left old (rests + 1) new

-- A pause that ends at the first rest after which a round is due.
pub record EndsDue (limit : Option ℕ) (begin : ℕ) (left : List (List ℕ)) (old new : Watched) : Type 0 where
  pub rests : ℕ
  pub middle : Watched
  pub few : rests < MOST_RESTS
  pub quiet : RestsOn limit begin left old rests middle
  pub due : TakesRest limit begin left true middle new

-- A pause ends this way, or after as many rests as there are in a second.
abbrev pub Pauses : (limit : Option ℕ) (begin : ℕ) (left : List (List ℕ)) (old new : Watched) → Type 0
Pauses limit begin left old new = EndsDue limit begin left old new ⊎ RestsOn limit begin left old MOST_RESTS new

-- The same, for the entries of the services that are left, and for each value before and after.
abbrev pub PausesFor : (limit : Option ℕ) (begin : ℕ) (left : List AwaitedService) (watch watches : Watch)
    (calls asked : Option (List Call)) (steps taken : Option (List Step)) → Type 0
PausesFor limit begin left watch watches calls asked steps taken =
    Pauses limit begin (entry_folders left) (watched watch (sight calls steps)) (watched watches (sight asked taken))
