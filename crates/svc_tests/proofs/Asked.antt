-- What turns ask of a world is what the written table asks for.
use Rattle.std.proofs.Common.{◌≡◌, List, [], ◌∷◌, ◌++◌, Option, Some, None, Result, Ok, Err, IfSome, IfOk}
use Rattle.std.proofs.Common.{OnErr}
use Rattle.std.proofs.Common.{refl, sym, ap, ◌∙◌, subst, append_assoc}
use Rattle.std.proofs.lemmas.List.{append-nil}
use Rattle.tai_status.specs.Label.{Tai64n}
use Rattle.tai_status.specs.declared.phase.Phase.{Phase}
use Rattle.tai_status.specs.declared.phase.Phase.TheVariants as phase
use Rattle.sup_core.specs.declared.asks.Ask.{Ask}
use Rattle.sup_core.specs.declared.event.Event.{Event}
use Rattle.sup_core.specs.declared.event.Event.TheVariants.{Byte, Started, StartFailed, Death, Clock}
use Rattle.sup_core.specs.History.{History, Opened}
use Rattle.sup_core.specs.Rules.{asks_of}
use Rattle.sup_core.specs.Runs.{asks_along, followed_by}
use Rattle.sup_core.specs.State.{State}
use Rattle.sup_core.proofs.Laws.{asks_along-more}
use Rattle.svc_house.specs.declared.call.Call.{Call}
use Rattle.svc_house.specs.declared.call.Call.TheVariants.{Requested, Answered, NoStart, NoDeath, Read}
use Rattle.svc_house.specs.declared.pending.Pending.{Pending}
use Rattle.svc_house.specs.declared.pending.Pending.TheVariants.{Empty, One, ByteThenDeath}
use Rattle.svc_house.specs.declared.turned.HouseFault.{HouseFault}
use Rattle.svc_house.specs.declared.turned.Turned.{Turned}
use Rattle.svc_house.specs.declared.turned.Turned.TheVariants.{Idle, Took, Ended}
use Rattle.svc_house.specs.Calls.{ExtendedWhileKept, requested, polls_for, polls_before, answers_in, outcomes_in}
use Rattle.svc_house.specs.Pending.{events_in}
use Rattle.svc_house.specs.Standing.{Standing, past_of, state_in}
use Rattle.svc_house.specs.Turn.{IsRefused, IsSameHouse, IsTurn, PolledInVain, phase_in, polls_of, polls_with}
use Rattle.svc_house.proofs.Extended.{extended-none}
use Rattle.svc_tests.specs.Asked.{asks_in, taken_by}

asks_in-append : (xs ys : List Call) → asks_in (xs ++ ys) ≡ asks_in xs ++ asks_in ys
asks_in-append [] ys = refl
asks_in-append (Requested ask ∷ xs) ys = ap (λ (l : List Ask). ask ∷ l) (asks_in-append xs ys)
asks_in-append (Answered event ∷ xs) ys = asks_in-append xs ys
asks_in-append (NoStart ∷ xs) ys = asks_in-append xs ys
asks_in-append (NoDeath ∷ xs) ys = asks_in-append xs ys
asks_in-append (Read label ∷ xs) ys = asks_in-append xs ys

asks_in-requested : (asks : List Ask) → asks_in (requested asks) ≡ asks
asks_in-requested [] = refl
asks_in-requested (ask ∷ asks) = ap (λ (l : List Ask). ask ∷ l) (asks_in-requested asks)

-- Polls are no asks.

none_for : (event : Event) (p : Phase) → asks_in (polls_for event p) ≡ []
none_for (Byte byte) phase.Starting = refl
none_for (Byte byte) phase.Settling = refl
none_for (Byte byte) phase.Resting = refl
none_for (Byte byte) phase.Up = refl
none_for (Byte byte) phase.Down = refl
none_for (Byte byte) phase.Gone = refl
none_for (Started pid label) p = refl
none_for (StartFailed label) p = refl
none_for (Death label) p = refl
none_for (Clock label) p = refl

none_before : (found : Pending) (p : Phase) → asks_in (polls_before found p) ≡ []
none_before Empty p = refl
none_before (One event) p = none_for event p
none_before (ByteThenDeath byte label) p = refl

none_with : (pending found : Pending) (p : Phase) → asks_in (polls_with pending found p) ≡ []
none_with Empty found p = none_before found p
none_with (One event) found p = refl
none_with (ByteThenDeath byte label) found p = refl

-- What was asked grows with the calls.

asks_more : (old new : Option (List Call)) (more : List Call) (past asks : List Ask)
    → ExtendedWhileKept old new more → asks_in more ≡ asks
    → IfSome old (λ calls. asks_in calls ≡ past) → IfSome new (λ calls. asks_in calls ≡ past ++ asks)
asks_more old None more past asks extended same known = tt
asks_more None (Some new) more past asks extended same known = absurd extended
asks_more (Some old) (Some new) more past asks extended same known =
    ap asks_in extended ∙ asks_in-append old more ∙ ap (λ (l : List Ask). l ++ asks_in more) known
    ∙ ap (λ (l : List Ask). past ++ l) same

asks_same : (old new : Option (List Call)) (more : List Call) (past : List Ask)
    → ExtendedWhileKept old new more → asks_in more ≡ []
    → IfSome old (λ calls. asks_in calls ≡ past) → IfSome new (λ calls. asks_in calls ≡ past)
asks_same old None more past extended none known = tt
asks_same None (Some new) more past extended none known = absurd extended
asks_same (Some old) (Some new) more past extended none known =
    asks_more (Some old) (Some new) more past [] extended none known ∙ append-nil past

-- Calls that ask nothing were added.
record AddsPolls (old new : Option (List Call)) : Type 0 where
  more : List Call
  extended : ExtendedWhileKept old new more
  none : asks_in more ≡ []

in_vain : (p : Phase) (until : Option Tai64n) (old new : Option (List Call)) → PolledInVain p until old new
    → AddsPolls old new
in_vain phase.Starting until old new polled = record { more = NoStart ∷ []; extended = polled; none = refl }
in_vain phase.Settling until old new polled =
    record { more = Read polled.0 ∷ []; extended = polled.1; none = refl }
in_vain phase.Resting until old new polled =
    record { more = Read polled.0 ∷ []; extended = polled.1; none = refl }
in_vain phase.Up until old new polled = record { more = NoDeath ∷ []; extended = polled; none = refl }
in_vain phase.Down until old new polled =
    record { more = []; extended = subst (λ calls. ExtendedWhileKept old calls []) (sym polled) (extended-none old); none = refl }
in_vain phase.Gone until old new polled =
    record { more = []; extended = subst (λ calls. ExtendedWhileKept old calls []) (sym polled) (extended-none old); none = refl }

-- A house's world was asked these, followed by what the table asks for at the published events.
pub record IsAsked {I : Type 0} (first : List Ask) (opening : State) (events : List Event) (s : Standing I) : Type 0 where
  pub opening_is : s.opening ≡ opening
  pub events_are : s.events ≡ events
  pub asks : IfSome s.calls (λ calls. asks_in calls ≡ first ++ asks_along (Opened opening) events)

pub begins_asked : {I : Type 0} (first : List Ask) (opening : State) (calls : Option (List Call)) (s : Standing I)
    → calls ≡ Some [] → ExtendedWhileKept calls s.calls (requested first) → s.opening ≡ opening → s.events ≡ []
    → IsAsked first opening [] s
begins_asked first opening calls s none extended opens events = record {
  opening_is = opens;
  events_are = events;
  asks = subst (λ (l : List Ask). IfSome s.calls (λ calls. asks_in calls ≡ l)) (sym (append-nil first))
      (asks_more (Some []) s.calls (requested first) [] first
      (subst (λ past. ExtendedWhileKept past s.calls (requested first)) none extended) (asks_in-requested first) refl);
}

still : {I : Type 0} (first : List Ask) (opening : State) (events : List Event) (old new : Standing I)
    → IsSameHouse old new → new.events ≡ old.events → AddsPolls old.calls new.calls
    → IsAsked first opening events old → IsAsked first opening (events ++ []) new
still first opening events old new same still_are polls is =
    subst (λ (l : List Event). IsAsked first opening l new) (sym (append-nil events)) (record {
      opening_is = same.opening ∙ is.opening_is;
      events_are = still_are ∙ is.events_are;
      asks = asks_same old.calls new.calls polls.more (first ++ asks_along (Opened opening) events) polls.extended
          polls.none is.asks;
    })

-- A turn asks for what the table asks for at the event that it took, if it took one.
pub asked_on : {I : Type 0} (first : List Ask) (opening : State) (events : List Event) (old new : Standing I)
    (turned : Result Turned HouseFault)
    → IsSameHouse old new → IfOk turned (λ turned. IsTurn old turned new) → OnErr turned (IsRefused old new)
    → IsAsked first opening events old → IsAsked first opening (events ++ taken_by turned) new
asked_on first opening events old new (Ok Idle) same turn refused is =
    let polls = in_vain (phase_in old) (state_in old).until old.calls new.calls turn.polls in
    still first opening events old new same turn.events polls is
asked_on first opening events old new (Ok (Took event)) same turn refused is =
    let more = polls_of old turn.pending ++ requested (asks_of (past_of old) event) in
    let asks : asks_in more ≡ asks_of (past_of old) event =
    asks_in-append (polls_of old turn.pending) (requested (asks_of (past_of old) event))
    ∙ ap (λ (l : List Ask). l ++ asks_in (requested (asks_of (past_of old) event)))
    (none_with old.pending turn.pending (phase_in old))
    ∙ asks_in-requested (asks_of (past_of old) event) in
    let past : past_of old ≡ followed_by (Opened opening) events =
    ap (λ o. followed_by (Opened o) old.events) is.opening_is ∙ ap (followed_by (Opened opening)) is.events_are in
    let along : (first ++ asks_along (Opened opening) events) ++ asks_of (past_of old) event
    ≡ first ++ asks_along (Opened opening) (events ++ event ∷ []) =
    append_assoc first (asks_along (Opened opening) events) (asks_of (past_of old) event)
    ∙ ap (λ (h : History). first ++ (asks_along (Opened opening) events ++ asks_of h event)) past
    ∙ ap (λ (l : List Ask). first ++ l) (sym (asks_along-more (Opened opening) events event)) in
    record {
      opening_is = same.opening ∙ is.opening_is;
      events_are = turn.events ∙ ap (λ (l : List Event). l ++ event ∷ []) is.events_are;
      asks = subst (λ (l : List Ask). IfSome new.calls (λ calls. asks_in calls ≡ l)) along
          (asks_more old.calls new.calls more (first ++ asks_along (Opened opening) events)
          (asks_of (past_of old) event) turn.calls asks is.asks);
    }
asked_on first opening events old new (Ok Ended) same turn refused is =
    still first opening events old new same (ap (λ s. s.events) turn)
    (record {
      more = [];
      extended = subst (λ calls. ExtendedWhileKept old.calls calls []) (sym (ap (λ s. s.calls) turn))
          (extended-none old.calls);
      none = refl;
    }) is
asked_on first opening events old new (Err fault) same turn refused is =
    still first opening events old new same refused.events
    (record {
      more = polls_of old new.pending;
      extended = refused.calls;
      none = none_with old.pending new.pending (phase_in old);
    }) is

turned_round : (kept : Option (List Call)) (events : List Event)
    → IfSome kept (λ calls. outcomes_in events ≡ answers_in calls)
    → IfSome kept (λ calls. answers_in calls ≡ outcomes_in events)
turned_round None events facts = tt
turned_round (Some calls) events facts = sym facts

-- What the world returned, by the facts of a house with these events and this pending
pub answers_are : (calls kept : Option (List Call)) (events found : List Event) (pending left : Pending)
    → calls ≡ kept → found ≡ events → left ≡ pending
    → IfSome kept (λ calls. outcomes_in (found ++ events_in pending) ≡ answers_in calls)
    → IfSome calls (λ calls. answers_in calls ≡ outcomes_in (events ++ events_in left))
answers_are calls kept events found pending left same events_are pending_is facts =
    subst (λ (o : Option (List Call)). IfSome o (λ calls. answers_in calls ≡ outcomes_in (events ++ events_in left)))
    (sym same)
    (subst (λ (p : Pending). IfSome kept (λ calls. answers_in calls ≡ outcomes_in (events ++ events_in p)))
    (sym pending_is)
    (subst (λ (l : List Event). IfSome kept (λ calls. answers_in calls ≡ outcomes_in (l ++ events_in pending)))
    events_are (turned_round kept (found ++ events_in pending) facts)))
