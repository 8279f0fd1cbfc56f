-- Laws of histories: later events depend on nothing but the state of a history.
use Rattle.std.proofs.Common.{◌≡◌, ℕ, zero, suc, ◌+◌, ◌<◌, Bool, true, false, length, take, drop, get_or, append_assoc}
use Rattle.std.proofs.Common.{append-nil, add-one, List, [], ◌∷◌, ◌++◌, refl, sym, subst, if◌then◌else◌, ◌∙◌, ap, arith}
use Rattle.std.specs.List.{AllByRecursion}
use Rattle.std.proofs.lemmas.List.{take_more}
use Rattle.tai_status.specs.Label.{Tai64n}
use Rattle.sup_core.specs.declared.event.Event.{Event}
use Rattle.sup_core.specs.declared.event.Event.TheVariants.{Byte, Started, StartFailed, Death, Clock}
use Rattle.sup_core.specs.declared.asks.Ask.{Ask}
use Rattle.sup_core.specs.declared.asks.Reply.TheVariants.{Took, Held}
use Rattle.tai_status.specs.declared.phase.Phase.{Phase}
use Rattle.tai_status.specs.declared.phase.Phase.TheVariants as phase
use Rattle.sup_core.specs.History.{History, Begin, Opened, Then, state_of, ends_in_failure, is_resting, phase_of}
use Rattle.sup_core.specs.History.{until_of}
use Rattle.sup_core.specs.Runs.{AreTaken, after, asks_along, followed_by, replies_to, taken_of}
use Rattle.sup_core.specs.Rules.{reply_to, IsEvent, next, is_taken, takes, asks_of}

-- a history rests exactly if it ends in a failed start
pub ends_in_failure-phase : (past : History) → ends_in_failure past ≡ is_resting (phase_of past)
ends_in_failure-phase (Begin true label) = refl
ends_in_failure-phase (Begin false label) = refl
ends_in_failure-phase (Opened state) = refl
ends_in_failure-phase (Then past (Byte byte)) = grind (arith)
ends_in_failure-phase (Then past (Started pid label)) = refl
ends_in_failure-phase (Then past (StartFailed label)) = refl
ends_in_failure-phase (Then past (Death label)) = grind (arith)
ends_in_failure-phase (Then past (Clock label)) = grind (arith)

-- If two histories lead to one state, they lead to one state after the next event.
pub state_of-then : (p q : History) (event : Event) → state_of p ≡ state_of q
    → state_of (Then p event) ≡ state_of (Then q event)
state_of-then p q (Byte byte) h = grind (arith)
state_of-then p q (Started pid label) h = grind (arith)
state_of-then p q (StartFailed label) h = grind (arith)
state_of-then p q (Death label) h = grind (arith)
state_of-then p q (Clock label) h = grind (arith, ends_in_failure-phase p, ends_in_failure-phase q)

pub followed_by-state : (p q : History) (events : List Event) → state_of p ≡ state_of q
    → state_of (followed_by p events) ≡ state_of (followed_by q events)
followed_by-state p q [] h = h
followed_by-state p q (event ∷ events) h =
    followed_by-state (Then p event) (Then q event) events (state_of-then p q event h)

-- What is taken and what is asked for depend on that state alone.
pub takes-state : (p q : History) (event : Event) → state_of p ≡ state_of q → takes p event ≡ takes q event
takes-state p q event h = grind (arith)

pub asks_of-state : (p q : History) (event : Event) → state_of p ≡ state_of q → asks_of p event ≡ asks_of q event
asks_of-state p q (Byte byte) h = grind (arith, state_of-then p q (Byte byte) h)
asks_of-state p q (Started pid label) h = grind (arith, state_of-then p q (Started pid label) h)
asks_of-state p q (StartFailed label) h = grind (arith, state_of-then p q (StartFailed label) h)
asks_of-state p q (Death label) h = grind (arith, state_of-then p q (Death label) h)
asks_of-state p q (Clock label) h =
    grind (arith, state_of-then p q (Clock label) h, ends_in_failure-phase p, ends_in_failure-phase q)

pub followed_by-append : (past : History) (xs ys : List Event)
    → followed_by past (xs ++ ys) ≡ followed_by (followed_by past xs) ys
followed_by-append past [] ys = refl
followed_by-append past (x ∷ xs) ys = followed_by-append (Then past x) xs ys

-- A history may be cut anywhere: the state there shows all that matters of what came before.
pub state_of-cut : (past : History) (xs ys : List Event)
    → state_of (followed_by past (xs ++ ys)) ≡ state_of (followed_by (Opened (state_of (followed_by past xs))) ys)
state_of-cut past xs ys =
    let here = followed_by past xs in
    ap state_of (followed_by-append past xs ys)
    ∙ followed_by-state here (Opened (state_of here)) ys refl

-- What is known of the event at a place in a list of events that are taken.
pub record TakenAt (past : History) (events : List Event) (i : ℕ) (event : Event) : Type 0 where
  pub condition : IsEvent event
  pub taken : takes (followed_by past (take i events)) event ≡ true
  pub next : followed_by past (take (i + 1) events) ≡ Then (followed_by past (take i events)) event

pub AreTaken-at : (past : History) (events : List Event) (i : ℕ) (event : Event) → AreTaken past events
    → i < length events → event ≡ get_or events i event → TakenAt past events i event
AreTaken-at past [] i event h below at = absurd (omega arith)
AreTaken-at past (first ∷ events) zero event h below at =
    subst (TakenAt past (first ∷ events) 0) (sym at) (record { condition = h.0; taken = h.1; next = refl })
AreTaken-at past (first ∷ events) (suc i) event h below at =
    let here = AreTaken-at (Then past first) events i event h.2 (omega arith) at in
    record { condition = here.condition; taken = here.taken; next = rw add-one (rw add-one at here.next) }

-- One more event that is taken.
pub AreTaken-append : (past : History) (events : List Event) (event : Event) → AreTaken past events
    → IsEvent event → takes (followed_by past events) event ≡ true → AreTaken past (events ++ event ∷ [])
AreTaken-append past [] event h condition taken = (condition, taken, tt)
AreTaken-append past (e ∷ events) event h condition taken =
    (h.0, h.1, AreTaken-append (Then past e) events event h.2 condition taken)

-- What is taken after a history is taken after any other with its state.
pub AreTaken-state : (p q : History) (events : List Event) → state_of p ≡ state_of q → AreTaken p events
    → AreTaken q events
AreTaken-state p q [] h taken = tt
AreTaken-state p q (event ∷ events) h taken = (
  taken.0,
  sym (takes-state p q event h) ∙ taken.1,
  AreTaken-state (Then p event) (Then q event) events (state_of-then p q event h) taken.2,
)

pub next-taken : (past : History) (event : Event) → takes past event ≡ true → next past event ≡ Then past event
next-taken past event taken = rw taken refl

-- An event whose reply has asks is taken.
pub reply_to-took : (past : History) (event : Event) (asks : List Ask) → Took asks ≡ reply_to past event
    → takes past event ≡ true
reply_to-took past event asks said =
    elim (takes past event) as (λ b. Took asks ≡ (if b then Took (asks_of past event) else Held) → b ≡ true) [
      | true ↦ λ said. refl
      | false ↦ λ said. absurd (cc)
    ] said

pub next-state : (p q : History) (event : Event) → state_of p ≡ state_of q
    → state_of (next p event) ≡ state_of (next q event)
next-state p q event h =
    elim (takes q event) as (λ t. takes q event ≡ t → state_of (next p event) ≡ state_of (next q event)) [
      | true ↦ λ is. rw (takes-state p q event h, is) (state_of-then p q event h)
      | false ↦ λ is. rw (takes-state p q event h, is) h
    ] refl

pub reply_to-state : (p q : History) (event : Event) → state_of p ≡ state_of q → reply_to p event ≡ reply_to q event
reply_to-state p q event h = rw (takes-state p q event h, asks_of-state p q event h) refl

-- Two histories with one state continue alike.
pub after-state : (p q : History) (events : List Event) → state_of p ≡ state_of q
    → state_of (after p events) ≡ state_of (after q events)
after-state p q [] h = h
after-state p q (event ∷ events) h = after-state (next p event) (next q event) events (next-state p q event h)

pub replies_to-state : (p q : History) (events : List Event) → state_of p ≡ state_of q
    → replies_to p events ≡ replies_to q events
replies_to-state p q [] h = refl
replies_to-state p q (event ∷ events) h =
    let first = reply_to-state p q event h in
    let rest = replies_to-state (next p event) (next q event) events (next-state p q event h) in
    cc (first, rest)

pub after-append : (past : History) (xs ys : List Event) → after past (xs ++ ys) ≡ after (after past xs) ys
after-append past [] ys = refl
after-append past (x ∷ xs) ys = after-append (next past x) xs ys

-- one more event
pub after-take : (past : History) (events : List Event) (i : ℕ) (event : Event) → i < length events
    → event ≡ get_or events i event
    → after past (take (i + 1) events) ≡ next (after past (take i events)) event
after-take past events i event below at =
    ap (after past) (take_more events i event below) ∙ after-append past (take i events) (get_or events i event ∷ [])
    ∙ ap (next (after past (take i events))) (sym at)

pub replies_to-append : (past : History) (xs ys : List Event)
    → replies_to past (xs ++ ys) ≡ replies_to past xs ++ replies_to (after past xs) ys
replies_to-append past [] ys = refl
replies_to-append past (x ∷ xs) ys = ap (λ replies. reply_to past x ∷ replies) (replies_to-append (next past x) xs ys)

pub after-cut : (past : History) (xs ys : List Event)
    → state_of (after past (xs ++ ys)) ≡ state_of (after (Opened (state_of (after past xs))) ys)
after-cut past xs ys =
    let here = after past xs in
    ap state_of (after-append past xs ys) ∙ after-state here (Opened (state_of here)) ys refl

pub replies_to-cut : (past : History) (xs ys : List Event)
    → replies_to past (xs ++ ys) ≡ replies_to past xs ++ replies_to (Opened (state_of (after past xs))) ys
replies_to-cut past xs ys =
    let here = after past xs in
    replies_to-append past xs ys
    ∙ ap (λ replies. replies_to past xs ++ replies) (replies_to-state here (Opened (state_of here)) ys refl)

-- Those events that are taken

pub taken_of-state : (p q : History) (events : List Event) → state_of p ≡ state_of q
    → taken_of p events ≡ taken_of q events
taken_of-state p q [] h = refl
taken_of-state p q (event ∷ events) h =
    elim (takes q event) as (λ t. takes q event ≡ t → taken_of p (event ∷ events) ≡ taken_of q (event ∷ events)) [
      | true ↦ λ is.
          let rest = taken_of-state (Then p event) (Then q event) events (state_of-then p q event h) in
          rw (takes-state p q event h, is, rest) refl
      | false ↦ λ is. let rest = taken_of-state p q events h in rw (takes-state p q event h, is, rest) refl
    ] refl

-- the events that are taken lead to the same history as all of them
pub after-taken_of : (past : History) (events : List Event)
    → after past events ≡ followed_by past (taken_of past events)
after-taken_of past [] = refl
after-taken_of past (event ∷ events) =
    elim (takes past event) as (λ t. takes past event ≡ t → after past (event ∷ events)
    ≡ followed_by past (taken_of past (event ∷ events))) [
      | true ↦ λ is. rw is (after-taken_of (Then past event) events)
      | false ↦ λ is. rw is (after-taken_of past events)
    ] refl

-- if each event is taken, those that are taken are all of them
pub taken_of-all : (past : History) (events : List Event) → AreTaken past events → taken_of past events ≡ events
taken_of-all past [] h = refl
taken_of-all past (event ∷ events) h = rw (h.1, taken_of-all (Then past event) events h.2) refl

pub after-all : (past : History) (events : List Event) → AreTaken past events
    → after past events ≡ followed_by past events
after-all past events h = after-taken_of past events ∙ ap (followed_by past) (taken_of-all past events h)

-- If supervise is done, it takes nothing more.
pub takes-gone : (past : History) (event : Event) → phase_of past ≡ phase.Gone → takes past event ≡ false
takes-gone past event gone = ap (λ (p : Phase). is_taken p (until_of past) event) gone

-- Supervise is not done when it begins.
pub begin-not_gone : (down : Bool) (label : Tai64n) → phase_of (Begin down label) ≡ phase.Gone → ⊥
begin-not_gone true label h = cc h
begin-not_gone false label h = cc h

-- events that are taken are events
pub AreTaken-events : (past : History) (events : List Event) → AreTaken past events → AllByRecursion IsEvent events
AreTaken-events past [] h = tt
AreTaken-events past (event ∷ events) h = (h.0, AreTaken-events (Then past event) events h.2)

pub AreTaken-concat : (past : History) (xs ys : List Event) → AreTaken past xs → AreTaken (followed_by past xs) ys
    → AreTaken past (xs ++ ys)
AreTaken-concat past [] ys h g = g
AreTaken-concat past (x ∷ xs) ys h g = (h.0, h.1, AreTaken-concat (Then past x) xs ys h.2 g)

-- the events after the first n are taken after those n
pub AreTaken-drop : (past : History) (n : ℕ) (events : List Event) → AreTaken past events
    → AreTaken (followed_by past (take n events)) (drop n events)
AreTaken-drop past zero events h = h
AreTaken-drop past (suc n) [] h = tt
AreTaken-drop past (suc n) (event ∷ events) h = AreTaken-drop (Then past event) n events h.2

-- What is asked for

pub asks_along-append : (past : History) (xs ys : List Event)
    → asks_along past (xs ++ ys) ≡ asks_along past xs ++ asks_along (followed_by past xs) ys
asks_along-append past [] ys = refl
asks_along-append past (x ∷ xs) ys =
    ap (λ asks. asks_of past x ++ asks) (asks_along-append (Then past x) xs ys)
    ∙ sym (append_assoc (asks_of past x) (asks_along (Then past x) xs) (asks_along (followed_by (Then past x) xs) ys))

-- one more event
pub asks_along-more : (past : History) (events : List Event) (event : Event)
    → asks_along past (events ++ event ∷ []) ≡ asks_along past events ++ asks_of (followed_by past events) event
asks_along-more past events event =
    asks_along-append past events (event ∷ [])
    ∙ ap (λ asks. asks_along past events ++ asks) (append-nil (asks_of (followed_by past events) event))
