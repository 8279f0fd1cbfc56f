-- How looking for events changes the facts of a house.
use Rattle.std.proofs.Common.{◌≡◌, ◌≢◌, ℕ, ◌<◌, true, List, [], ◌∷◌, ◌++◌, Option, Some, None, IfSome, refl, sym, ap}
use Rattle.std.proofs.Common.{◌∙◌, subst, arith}
use Rattle.std.proofs.lemmas.List.{append-nil}
use Rattle.tai_status.specs.Label.{Tai64n}
use Rattle.sup_core.specs.declared.event.Event.{Event}
use Rattle.sup_core.specs.declared.event.Event.TheVariants.{Byte, Started, StartFailed, Death, Clock}
use Rattle.tai_status.specs.declared.phase.Phase.{Phase}
use Rattle.tai_status.specs.declared.phase.Phase.TheVariants as phase
use Rattle.sup_core.specs.State.{State}
use Rattle.sup_core.specs.History.{History, Then, pid_of, phase_of, state_of, until_of}
use Rattle.sup_core.specs.Rules.{is_taken}
use Rattle.sup_core.specs.Runs.{AreTaken}
use Rattle.svc_house.specs.declared.call.Call.{Call}
use Rattle.svc_house.specs.declared.call.Call.TheVariants.{NoStart, NoDeath, Read}
use Rattle.svc_house.specs.declared.pending.Pending.{Pending}
use Rattle.svc_house.specs.declared.pending.Pending.TheVariants.{Empty, One, ByteThenDeath}
use Rattle.svc_house.specs.Calls.{ExtendedWhileKept, answers_in, bytes_in, outcomes_in, polls_before, polls_for}
use Rattle.svc_house.specs.Calls.{readings_in, IsLastReading}
use Rattle.svc_house.specs.Find.{IsReady}
use Rattle.svc_house.specs.Pending.{events_in}
use Rattle.svc_house.specs.Standing.{HoldsLastReading}
use Rattle.svc_house.specs.Turn.{PolledInVain}
use Rattle.svc_house.proofs.Lists.{bytes_in-append, outcomes_in-append, answers-extended, readings_in-append}

-- The control bytes

pub look_bytes : (events : List Event) (found : Pending) (before after : List ℕ) → bytes_in (events ++ []) ≡ before
    → after ≡ before ++ bytes_in (events_in found) → bytes_in (events ++ events_in found) ≡ after
look_bytes events found before after known more =
    bytes_in-append events (events_in found)
    ∙ ap (λ l. bytes_in l ++ bytes_in (events_in found)) (sym (append-nil events))
    ∙ ap (λ l. l ++ bytes_in (events_in found)) known ∙ sym more

-- What the world returned

-- What was found is what the polls returned.
event-found : (event : Event) (phase : Phase) → outcomes_in (event ∷ []) ≡ answers_in (polls_for event phase)
event-found (Byte byte) phase.Starting = refl
event-found (Byte byte) phase.Settling = refl
event-found (Byte byte) phase.Resting = refl
event-found (Byte byte) phase.Up = refl
event-found (Byte byte) phase.Down = refl
event-found (Byte byte) phase.Gone = refl
event-found (Started pid label) phase = refl
event-found (StartFailed label) phase = refl
event-found (Death label) phase = refl
event-found (Clock label) phase = refl

polls-found : (found : Pending) (phase : Phase) → outcomes_in (events_in found) ≡ answers_in (polls_before found phase)
polls-found Empty phase = refl
polls-found (One event) phase = event-found event phase
polls-found (ByteThenDeath byte label) phase = refl

same_answers : (old new : Option (List Call)) (events : List Event) → new ≡ old
    → IfSome old (λ calls. events ≡ answers_in calls) → IfSome new (λ calls. events ≡ answers_in calls)
same_answers old new events same known =
    subst (λ (o : Option (List Call)). IfSome o (λ calls. events ≡ answers_in calls)) (sym same) known

polls-vain : (phase : Phase) (until : Option Tai64n) (old new : Option (List Call)) (events : List Event)
    → PolledInVain phase until old new → IfSome old (λ calls. events ≡ answers_in calls)
    → IfSome new (λ calls. events ≡ answers_in calls)
polls-vain phase.Starting until old new events vain known =
    answers-extended old new (NoStart ∷ []) events events vain known (sym (append-nil events))
polls-vain phase.Settling until old new events vain known =
    answers-extended old new (Read vain.0 ∷ []) events events vain.1 known (sym (append-nil events))
polls-vain phase.Resting until old new events vain known =
    answers-extended old new (Read vain.0 ∷ []) events events vain.1 known (sym (append-nil events))
polls-vain phase.Up until old new events vain known =
    answers-extended old new (NoDeath ∷ []) events events vain known (sym (append-nil events))
polls-vain phase.Down until old new events vain known = same_answers old new events vain known
polls-vain phase.Gone until old new events vain known = same_answers old new events vain known

found_outcomes : (events : List Event) (found : Pending) (phase : Phase) (old new : Option (List Call))
    → IfSome old (λ calls. outcomes_in (events ++ []) ≡ answers_in calls)
    → ExtendedWhileKept old new (polls_before found phase)
    → IfSome new (λ calls. outcomes_in (events ++ events_in found) ≡ answers_in calls)
found_outcomes events found phase old new known polls =
    answers-extended old new (polls_before found phase) (outcomes_in (events ++ []))
    (outcomes_in (events ++ events_in found)) polls known
    (outcomes_in-append events (events_in found)
    ∙ ap (λ l. l ++ outcomes_in (events_in found)) (ap outcomes_in (sym (append-nil events)))
    ∙ ap (λ l. outcomes_in (events ++ []) ++ l) (polls-found found phase))

one-some : (event : Event) → One event ≢ Empty
one-some event e = grind (arith, e)

both-some : (byte : ℕ) (label : Tai64n) → ByteThenDeath byte label ≢ Empty
both-some byte label e = grind (arith, e)

pub look_outcomes : (events : List Event) (found : Pending) (phase : Phase) (until : Option Tai64n)
    (old new : Option (List Call))
    → IfSome old (λ calls. outcomes_in (events ++ []) ≡ answers_in calls)
    → (found ≢ Empty → ExtendedWhileKept old new (polls_before found phase))
    → (found ≡ Empty → PolledInVain phase until old new)
    → IfSome new (λ calls. outcomes_in (events ++ events_in found) ≡ answers_in calls)
look_outcomes events Empty phase until old new known polls vain =
    polls-vain phase until old new (outcomes_in (events ++ [])) (vain refl) known
look_outcomes events (One event) phase until old new known polls vain =
    found_outcomes events (One event) phase old new known (polls (one-some event))
look_outcomes events (ByteThenDeath byte label) phase until old new known polls vain =
    found_outcomes events (ByteThenDeath byte label) phase old new known (polls (both-some byte label))

-- What is taken

-- After a control byte, a service that is up is still up.
up-stays : (past : History) (byte : ℕ) → 0 < pid_of past → phase_of (Then past (Byte byte)) ≡ phase.Up
up-stays past byte runs = grind (arith, runs)

-- Therefore a death after it is taken.
both-taken : (past : History) (byte : ℕ) (label : Tai64n) → 0 < pid_of past → phase_of past ≡ phase.Up
    → AreTaken past (Byte byte ∷ Death label ∷ [])
both-taken past byte label runs up = (
  tt,
  ap (λ p. is_taken p (until_of past) (Byte byte)) up,
  (tt, ap (λ p. is_taken p (until_of (Then past (Byte byte))) (Death label)) (up-stays past byte runs), tt),
)

pub look_ready : (past : History) (state : State) (found : Pending) → state ≡ state_of past → IsReady state found
    → AreTaken past (events_in found)
look_ready past state Empty same ready = tt
look_ready past state (One event) same ready =
    (ready.0, subst (λ (s : State). is_taken s.phase s.until event ≡ true) same ready.1, tt)
look_ready past state (ByteThenDeath byte label) same ready =
    both-taken past byte label (subst (λ (s : State). 0 < s.status.pid) same ready.1) (ap (λ s. s.phase) (sym same)
    ∙ ready.0)

-- Readings

last_reading : (event : Event) (phase : Phase) (old new : Option (List Call))
    → ExtendedWhileKept old new (polls_for event phase)
    → IfSome new (IsLastReading event)
last_reading event phase old None found = tt
last_reading event phase None (Some new) found = absurd found
last_reading (Clock label) phase (Some old) (Some new) found =
    (readings_in old, ap readings_in found ∙ readings_in-append old (Read label ∷ []))
last_reading (Byte byte) phase (Some old) (Some new) found = tt
last_reading (Started pid label) phase (Some old) (Some new) found = tt
last_reading (StartFailed label) phase (Some old) (Some new) found = tt
last_reading (Death label) phase (Some old) (Some new) found = tt

pub look_reading : (found : Pending) (phase : Phase) (old new : Option (List Call))
    → (found ≢ Empty → ExtendedWhileKept old new (polls_before found phase)) → HoldsLastReading found new
look_reading Empty phase old new polls = tt
look_reading (One event) phase old new polls = last_reading event phase old new (polls (one-some event))
look_reading (ByteThenDeath byte label) phase old new polls = tt
