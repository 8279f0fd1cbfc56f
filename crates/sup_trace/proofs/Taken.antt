-- The test for events that are taken agrees with the fact.
use Rattle.std.proofs.Common.{◌≡◌, ◌&&◌, Bool, true, false, List, [], ◌∷◌, ◌++◌, refl, arith}
use Rattle.std.proofs.lemmas.Bool.Decides.{nat_tests}
use Rattle.sup_core.specs.declared.event.Event.{Event}
use Rattle.sup_core.specs.declared.event.Event.TheVariants.{Byte, Started, StartFailed, Death, Clock}
use Rattle.sup_core.specs.History.{History, Then}
use Rattle.sup_core.specs.Rules.{IsEvent, takes}
use Rattle.sup_core.specs.Runs.{followed_by, AreTaken}
use Rattle.sup_core.proofs.Laws.{AreTaken-append}
use Rattle.sup_trace.specs.Trace.{is_event, are_taken}

pub is_event-IsEvent : (event : Event) → is_event event ≡ true → IsEvent event
is_event-IsEvent (Started pid label) h = grind (arith, nat_tests)
is_event-IsEvent (Byte byte) h = tt
is_event-IsEvent (StartFailed label) h = tt
is_event-IsEvent (Death label) h = tt
is_event-IsEvent (Clock label) h = tt

pub IsEvent-is_event : (event : Event) → IsEvent event → is_event event ≡ true
IsEvent-is_event (Started pid label) h = grind (arith, nat_tests)
IsEvent-is_event (Byte byte) h = refl
IsEvent-is_event (StartFailed label) h = refl
IsEvent-is_event (Death label) h = refl
IsEvent-is_event (Clock label) h = refl

all_true : (a b c : Bool) → (a && b && c) ≡ true → (a ≡ true) × (b ≡ true) × (c ≡ true)
all_true true true c h = (refl, refl, h)
all_true true false c h = absurd (cc h)
all_true false b c h = absurd (grind (arith))

each_true : (a b c : Bool) → a ≡ true → b ≡ true → c ≡ true → (a && b && c) ≡ true
each_true a b c h i j = rw (h, i, j) refl

-- The test shows that each event is taken.
pub AreTaken-are_taken : (past : History) (events : List Event) → are_taken past events ≡ true → AreTaken past events
AreTaken-are_taken past [] h = tt
AreTaken-are_taken past (event ∷ events) h =
    let parts = all_true (is_event event) (takes past event) (are_taken (Then past event) events) h in
    (is_event-IsEvent event parts.0, parts.1, AreTaken-are_taken (Then past event) events parts.2)

pub are_taken-AreTaken : (past : History) (events : List Event) → AreTaken past events → are_taken past events ≡ true
are_taken-AreTaken past [] h = refl
are_taken-AreTaken past (event ∷ events) h =
    each_true (is_event event) (takes past event) (are_taken (Then past event) events)
    (IsEvent-is_event event h.0) h.1 (are_taken-AreTaken (Then past event) events h.2)

pub are_taken-more : (past : History) (events : List Event) (event : Event) → are_taken past events ≡ true
    → IsEvent event
    → takes (followed_by past events) event ≡ true → are_taken past (events ++ event ∷ []) ≡ true
are_taken-more past events event h condition taken =
    are_taken-AreTaken past (events ++ event ∷ [])
    (AreTaken-append past events event (AreTaken-are_taken past events h) condition taken)
