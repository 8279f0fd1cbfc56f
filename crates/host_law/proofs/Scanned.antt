-- A scan of a host is some turns of a suite.
use Rattle.std.proofs.Common.{◌≡◌, ℕ, ◌+◌, ◌<◌, ◌≤◌, zero, suc, Bool, true, false, not, List, [], ◌∷◌, ◌++◌}
use Rattle.std.proofs.Common.{map, length, refl, sym}
use Rattle.std.proofs.Common.{subst, ap, ◌∙◌, Option, Some, None, if◌then◌else◌, arith, append_assoc}
use Rattle.std.specs.List.{All, AllByRecursion, filter}
use Rattle.std.specs.Option.{option_map}
use Rattle.tai_status.specs.Label.{Tai64n, is_earlier, plus_second}
use Rattle.sup_core.specs.declared.event.Event.{Event}
use Rattle.sup_core.specs.declared.event.Event.TheVariants.{Byte, Started, Death, Clock}
use Rattle.sup_core.specs.State.{State, is_gone}
use Rattle.sup_core.specs.History.{Begin, Opened, phase_of, state_of}
use Rattle.sup_core.specs.Rules.{IsEvent}
use Rattle.sup_core.specs.Runs.{AreTaken, followed_by}
use Rattle.sup_core.proofs.Laws.{AreTaken-events}
use Rattle.sup_trace.specs.Trace.{IsTrace, Kept, new_trace, noted_if_taken, replay, trace_after}
use Rattle.sup_trace.proofs.After.{trace_after-none}
use Rattle.sup_trace.proofs.Laws.{IsTrace-new}
use Rattle.std.proofs.lemmas.List.Elements.{All-cons, All-head, All-tail}
use Rattle.scan_table.specs.declared.part.PartId.{PartId}
use Rattle.scan_table.specs.Slots.{Row, SlotState}
use Rattle.scan_table.specs.Table.{TableState, after_end, scanned}
use Rattle.suite_lines.specs.declared.event.SuiteEvent.{SuiteEvent}
use Rattle.suite_lines.specs.declared.event.SuiteEvent.TheVariants.{Scan, At}
use Rattle.suite_core.specs.Parts.{PartState, has_ended, is_part, trace_of}
use Rattle.suite_core.specs.Places.{IsSuite, Seen, seen}
use Rattle.suite_core.specs.Run.{suite_along}
use Rattle.suite_core.specs.Suite.{SuiteState, IsSuiteEvent, refusal, suite_at}
use Rattle.std.proofs.lemmas.Bool.Decides.{nat_tests}
use Rattle.suite_core.proofs.Names.{is_part-same}
use Rattle.suite_core.proofs.Runs.{IsSuite-along}
use Rattle.suite_core.proofs.Traces.{noted_where, trace_of-after}
use Rattle.svc_host.specs.Parts.{HostPart}
use Rattle.svc_host.specs.Rounds.{after_ends, chosen}
use Rattle.host_law.specs.Alike.{at_part}
use Rattle.host_law.specs.Whole.{Turn, Takes, Opens, turned_along, AllAccepted, IsNew, IsToldOf, IsTold, reopened}
use Rattle.host_law.specs.Whole.{AreApart, ids_of, suite_opened}
use Rattle.host_law.specs.Whole.{told}
use Rattle.host_law.proofs.Publishing.{publishes, trace_there}
use Rattle.host_law.proofs.Lists.{all_both, turned_round}
use Rattle.host_law.proofs.Moving.{told_as}
use Rattle.host_law.proofs.Running.{accepted_append, along_append}

-- Other parts are unchanged by events at one part.

same_option : (event : Event) (t : Option Kept) → option_map (noted_where false event) t ≡ t
same_option event None = refl
same_option event (Some kept) = refl

others_along : (A : Type 0) (suite : SuiteState) (id other : PartId) (events : List Event) → is_part id other ≡ false
    → trace_of (suite_along suite (at_part {A = A} id events)).parts other ≡ trace_of suite.parts other
others_along A suite id other [] differs = refl
others_along A suite id other (event ∷ events) differs =
    others_along A (suite_at suite id event) id other events differs
    ∙ trace_of-after suite.parts id other event
    ∙ ap (λ (b : Bool). option_map (noted_where b event) (trace_of suite.parts other)) differs
    ∙ same_option event (trace_of suite.parts other)

capacity_along : (A : Type 0) (suite : SuiteState) (id : PartId) (events : List Event)
    → (suite_along suite (at_part {A = A} id events)).capacity ≡ suite.capacity
capacity_along A suite id [] = refl
capacity_along A suite id (event ∷ events) = capacity_along A (suite_at suite id event) id events

abbrev takes_of : {A : Type 0} → List (SuiteEvent A) → List (Turn A)
takes_of events = map (λ event. Takes event) events

accepted_along : (A : Type 0) (suite : SuiteState) (id : PartId) (events : List Event) (kept : Kept)
    → trace_of suite.parts id ≡ Some kept → AllAccepted suite (takes_of (at_part {A = A} id events))
accepted_along A suite id [] kept there = tt
accepted_along A suite id (event ∷ events) kept there = (
  rw there refl,
  accepted_along A (suite_at suite id event) id events (noted_if_taken kept event)
      (trace_there suite.parts id event kept there),
)

turned_takes : (A : Type 0) (suite : SuiteState) (id : PartId) (events : List Event)
    → turned_along suite (takes_of (at_part {A = A} id events)) ≡ suite_along suite (at_part {A = A} id events)
turned_takes A suite id [] = refl
turned_takes A suite id (event ∷ events) = turned_takes A (suite_at suite id event) id events

are_events : (A : Type 0) (id : PartId) (events : List Event) → AllByRecursion IsEvent events
    → AllByRecursion (IsSuiteEvent {A = A}) (at_part {A = A} id events)
are_events A id [] all = tt
are_events A id (event ∷ events) all = (all.0, are_events A id events all.1)

-- A part that has just begun is brought to its end: it is asked to exit, after it started if it starts.

abbrev ending : Bool → Tai64n → List Event
ending true label = Byte 120 ∷ []
ending false label = Started 1 label ∷ Clock (plus_second label) ∷ Byte 120 ∷ Death label ∷ []

is_earlier_self : (label : Tai64n) → is_earlier label label ≡ false
is_earlier_self label = grind (arith, nat_tests)

ending_taken : (down : Bool) (label : Tai64n) → AreTaken (Opened (state_of (Begin down label))) (ending down label)
ending_taken true label = (tt, refl, tt)
ending_taken false label =
    (omega arith, refl, (tt, ap not (is_earlier_self (plus_second label)), (tt, refl, (tt, refl, tt))))

ending_gone : (down : Bool) (label : Tai64n)
    → is_gone (phase_of (followed_by (Opened (state_of (Begin down label))) (ending down label))) ≡ true
ending_gone true label = refl
ending_gone false label = refl

-- Openings: a part opens in another way

opened_here : (parts : List PartState) (id : PartId) (machine : State) (capacity : ℕ) (kept : Kept)
    → trace_of parts id ≡ Some kept → trace_of (reopened id machine capacity parts) id ≡ Some (new_trace machine capacity)
opened_here [] id machine capacity kept there = absurd (cc there)
opened_here (part ∷ parts) id machine capacity kept there =
    elim (is_part part.id id) as (λ b. is_part part.id id ≡ b → (if b then Some part.trace else trace_of parts id)
    ≡ Some kept
    → trace_of (if b then record { id = part.id; trace = new_trace machine capacity } ∷ parts
    else part ∷ reopened id machine capacity parts) id ≡ Some (new_trace machine capacity)) [
      | true ↦ λ here there. rw here refl
      | false ↦ λ here there. rw here (opened_here parts id machine capacity kept there)
    ] refl there

opened_other : (parts : List PartState) (id other : PartId) (machine : State) (capacity : ℕ) → is_part id other ≡ false
    → trace_of (reopened id machine capacity parts) other ≡ trace_of parts other
opened_other [] id other machine capacity differs = refl
opened_other (part ∷ parts) id other machine capacity differs =
    elim (is_part part.id id) as (λ b. is_part part.id id ≡ b
    → trace_of (if b then record { id = part.id; trace = new_trace machine capacity } ∷ parts
    else part ∷ reopened id machine capacity parts) other
    ≡ (if is_part part.id other then Some part.trace else trace_of parts other)) [
      | true ↦ λ here.
          let same : is_part part.id other ≡ false =
          ap (λ (a : PartId). is_part a other) (is_part-same part.id id here) ∙ differs in
          rw same refl
      | false ↦ λ here.
          ap (λ (t : Option Kept). if is_part part.id other then Some part.trace else t)
          (opened_other parts id other machine capacity differs)
    ] refl

-- The table sees no difference.
opened_seen : (parts : List PartState) (id : PartId) (machine : State) (capacity : ℕ) (kept : Kept)
    → trace_of parts id ≡ Some kept → has_ended kept ≡ false → is_gone machine.phase ≡ false
    → map seen (reopened id machine capacity parts) ≡ map seen parts
opened_seen [] id machine capacity kept there runs alive = refl
opened_seen (part ∷ parts) id machine capacity kept there runs alive =
    elim (is_part part.id id) as (λ b. is_part part.id id ≡ b → (if b then Some part.trace else trace_of parts id)
    ≡ Some kept
    → map seen (if b then record { id = part.id; trace = new_trace machine capacity } ∷ parts
    else part ∷ reopened id machine capacity parts) ≡ map seen (part ∷ parts)) [
      | true ↦ λ here there.
          let is : part.trace ≡ kept = cc there in
          let was : has_ended part.trace ≡ false = ap has_ended is ∙ runs in
          let now : has_ended (new_trace machine capacity) ≡ false = alive in
          ap (λ (b : Bool). record { id = part.id; ended = b } ∷ map seen parts) (now ∙ sym was)
      | false ↦ λ here there.
          ap (λ (xs : List Seen). seen part ∷ xs) (opened_seen parts id machine capacity kept there runs alive)
    ] refl there

opened_traces : (parts : List PartState) (id : PartId) (machine : State) (capacity : ℕ) → 0 < capacity
    → capacity ≤ 65536 → All (λ (part : PartState). IsTrace part.trace) parts
    → All (λ (part : PartState). IsTrace part.trace) (reopened id machine capacity parts)
opened_traces [] id machine capacity room limit all = all
opened_traces (part ∷ parts) id machine capacity room limit all =
    let P : PartState → Type 0 = λ (part : PartState). IsTrace part.trace in
    elim (is_part part.id id) as (λ b. All (λ (part : PartState). IsTrace part.trace)
    (if b then record { id = part.id; trace = new_trace machine capacity } ∷ parts
    else part ∷ reopened id machine capacity parts)) [
      | true ↦ All-cons (λ (part : PartState). IsTrace part.trace)
          (record { id = part.id; trace = new_trace machine capacity }) parts
          (IsTrace-new machine capacity room limit) (All-tail (λ (part : PartState). IsTrace part.trace) part parts all)
      | false ↦ All-cons (λ (part : PartState). IsTrace part.trace) part (reopened id machine capacity parts)
          (All-head (λ (part : PartState). IsTrace part.trace) part parts all)
          (opened_traces parts id machine capacity room limit
          (All-tail (λ (part : PartState). IsTrace part.trace) part parts all))
    ]

-- What begins, one part after the other

-- none of its events has been published yet
pub record IsJustBegun (suite : SuiteState) (id : PartId) : Type 0 where
  pub down : Bool
  pub label : Tai64n
  pub trace : trace_of suite.parts id ≡ Some (new_trace (state_of (Begin down label)) suite.capacity)

pub record HasBegun (part : HostPart) : Type 0 where
  pub alive : is_gone part.station.opening.phase ≡ false
  pub known : part.known ≡ []
  pub runs : part.has_ended ≡ false

begin_alive : (down : Bool) (label : Tai64n) → is_gone (phase_of (Begin down label)) ≡ false
begin_alive true label = refl
begin_alive false label = refl

pub told_there : (s t : SuiteState) (part : HostPart) → t.capacity ≡ s.capacity
    → trace_of t.parts part.id ≡ trace_of s.parts part.id → IsTold s part → IsTold t part
told_there s t part same trace is = record {
  begun = is.begun;
  taken = is.taken;
  gone = is.gone;
  trace = trace ∙ is.trace
      ∙ ap (λ (c : ℕ). Some (trace_after part.station.opening c (told part.station.opening part.known part.has_ended)))
      (sym same);
}

new_there : (s t : SuiteState) (id : PartId) → t.capacity ≡ s.capacity → trace_of t.parts id ≡ trace_of s.parts id
    → IsJustBegun s id → IsJustBegun t id
new_there s t id same trace is = record {
  down = is.down;
  label = is.label;
  trace = trace ∙ is.trace ∙ ap (λ (c : ℕ). Some (new_trace (state_of (Begin is.down is.label)) c)) (sym same);
}

each_id : (P Q R : PartId → Type 0) (ids : List PartId) → ((id : PartId) → P id → Q id → R id)
    → AllByRecursion P ids → AllByRecursion Q ids → AllByRecursion R ids
each_id P Q R [] goes ps qs = tt
each_id P Q R (id ∷ ids) goes ps qs = (goes id ps.0 qs.0, each_id P Q R ids goes ps.1 qs.1)

opened_is : (s : SuiteState) (id : PartId) (machine : State) → IsSuite s → IsJustBegun s id
    → is_gone machine.phase ≡ false → IsSuite (suite_opened s id machine)
opened_is s id machine is new alive = record {
  room = is.room;
  limit = is.limit;
  rising = is.rising;
  numbered = is.numbered;
  tied = opened_seen s.parts id machine s.capacity (new_trace (state_of (Begin new.down new.label)) s.capacity) new.trace
      (begin_alive new.down new.label) alive ∙ is.tied;
  traces = opened_traces s.parts id machine s.capacity is.room is.limit is.traces;
}

opened_told : (s : SuiteState) (part : HostPart) → IsJustBegun s part.id → HasBegun part
    → IsTold (suite_opened s part.id part.station.opening) part
opened_told s part new begun =
    told_as (suite_opened s part.id part.station.opening) part.id part.id part.station.opening part.station.opening []
    part.known false part.has_ended refl refl begun.known begun.runs
    (record {
      begun = begun.alive;
      taken = tt;
      gone = λ ended. absurd (cc ended);
      trace = opened_here s.parts part.id part.station.opening s.capacity
          (new_trace (state_of (Begin new.down new.label)) s.capacity) new.trace
          ∙ ap Some (sym (trace_after-none part.station.opening s.capacity));
    })

pub record Placed (A : Type 0) (s : SuiteState) (failed : List PartId) (stay begun : List HostPart) : Type 0 where
  pub turns : List (Turn A)
  pub accepted : AllAccepted s turns
  pub suite_is : IsSuite (turned_along s turns)
  pub table : (turned_along s turns).table ≡ after_ends failed s.table
  pub stay_told : AllByRecursion (IsTold (turned_along s turns)) stay
  pub begun_told : AllByRecursion (IsTold (turned_along s turns)) begun

abbrev pub Differs : PartId → HostPart → Type 0
Differs id part = is_part id part.id ≡ false

-- Parts that begin. These flags say which ones the host has, and which failed.
pub placed : (A : Type 0) (s : SuiteState) (flags : List Bool) (ids : List PartId) (stay begun : List HostPart)
    → length flags ≡ length ids → ids_of begun ≡ chosen flags ids → AreApart ids
    → AllByRecursion (λ (id : PartId). AllByRecursion (Differs id) stay) ids → IsSuite s
    → AllByRecursion (IsJustBegun s) ids → AllByRecursion (IsTold s) stay → AllByRecursion HasBegun begun
    → Placed A s (chosen (map not flags) ids) stay begun
placed A s [] [] stay [] each are apart cross is new told fresh = record {
  turns = [];
  accepted = tt;
  suite_is = is;
  table = refl;
  stay_told = told;
  begun_told = tt;
}
placed A s [] [] stay (part ∷ begun) each are apart cross is new told fresh = absurd (cc are)
placed A s [] (id ∷ ids) stay begun each are apart cross is new told fresh = absurd (omega (arith, each))
placed A s (flag ∷ flags) [] stay begun each are apart cross is new told fresh = absurd (omega (arith, each))
placed A s (true ∷ flags) (id ∷ ids) stay [] each are apart cross is new told fresh = absurd (cc are)
placed A s (true ∷ flags) (id ∷ ids) stay (part ∷ begun) each are apart cross is new told fresh =
    let here : part.id ≡ id = cc are in
    let later : ids_of begun ≡ chosen flags ids = cc are in
    let machine = part.station.opening in
    let t = suite_opened s part.id machine in
    let mine : IsJustBegun s part.id = subst (IsJustBegun s) (sym here) new.0 in
    let others : AllByRecursion (λ (other : PartId). is_part part.id other ≡ false) ids =
    subst (λ (i : PartId). AllByRecursion (λ (other : PartId). is_part i other ≡ false) ids) (sym here) apart.0 in
    let cross_here : AllByRecursion (Differs part.id) stay =
    subst (λ (i : PartId). AllByRecursion (Differs i) stay) (sym here) cross.0 in
    let rest = placed A t flags ids (part ∷ stay) begun (omega (arith, each)) later apart.1
    (each_id (λ (other : PartId). is_part part.id other ≡ false) (λ (i : PartId). AllByRecursion (Differs i) stay)
    (λ (i : PartId). AllByRecursion (Differs i) (part ∷ stay)) ids
    (λ i differs all. (turned_round part.id i differs, all)) others cross.1)
    (opened_is s part.id machine is mine fresh.0.alive)
    (each_id (λ (other : PartId). is_part part.id other ≡ false) (IsJustBegun s) (IsJustBegun t) ids
    (λ i differs one. new_there s t i refl (opened_other s.parts part.id i machine s.capacity differs) one)
    others new.1) (
      opened_told s part mine fresh.0,
      all_both (Differs part.id) (IsTold s) (IsTold t) stay
          (λ p differs one. told_there s t p refl (opened_other s.parts part.id p.id machine s.capacity differs) one)
          cross_here told,
    )
    fresh.1 in
    record {
      turns = Opens part.id machine ∷ rest.turns;
      accepted = (
        (
          record {
            machine = state_of (Begin mine.down mine.label);
            trace = mine.trace;
            alive = begin_alive mine.down mine.label;
          },
          fresh.0.alive,
        ),
        rest.accepted,
      );
      suite_is = rest.suite_is;
      table = rest.table;
      stay_told = rest.stay_told.1;
      begun_told = (rest.stay_told.0, rest.begun_told);
    }
placed A s (false ∷ flags) (id ∷ ids) stay begun each are apart cross is new told fresh =
    let down = new.0.down in
    let label = new.0.label in
    let events = ending down label in
    let taken = ending_taken down label in
    let first = publishes {A = A} s id (state_of (Begin down label)) s.capacity events is.room is.limit
    (begin_alive down label) taken new.0.trace in
    let t = suite_along s (at_part {A = A} id events) in
    let ended : t.table ≡ after_end s.table id = first.table ∙ rw (ending_gone down label) refl in
    let same : t.capacity ≡ s.capacity = capacity_along A s id events in
    let rest = placed A t flags ids stay begun (omega (arith, each)) are apart.1 cross.1
    (IsSuite-along s (at_part {A = A} id events) (are_events A id events (AreTaken-events
    (Opened (state_of (Begin down label))) events taken)) is)
    (each_id (λ (other : PartId). is_part id other ≡ false) (IsJustBegun s) (IsJustBegun t) ids
    (λ i differs one. new_there s t i same (others_along A s id i events differs) one) apart.0 new.1)
    (all_both (Differs id) (IsTold s) (IsTold t) stay
    (λ p differs one. told_there s t p same (others_along A s id p.id events differs) one) cross.0 told)
    fresh in
    let xs = takes_of (at_part {A = A} id events) in
    let over : turned_along s xs ≡ t = turned_takes A s id events in
    let later = subst (λ (u : SuiteState). Placed A u (chosen (map not flags) ids) stay begun) (sym over) rest in
    let whole = along_append s xs later.turns in
    record {
      turns = xs ++ later.turns;
      accepted = accepted_append s xs later.turns
          (accepted_along A s id events (new_trace (state_of (Begin down label)) s.capacity) new.0.trace) later.accepted;
      suite_is = subst IsSuite (sym whole) later.suite_is;
      table = ap (λ (u : SuiteState). u.table) whole ∙ later.table
          ∙ ap (after_ends (chosen (map not flags) ids)) (ap (λ (u : SuiteState). u.table) over ∙ ended);
      stay_told = subst (λ (u : SuiteState). AllByRecursion (IsTold u) stay) (sym whole) later.stay_told;
      begun_told = subst (λ (u : SuiteState). AllByRecursion (IsTold u) begun) (sym whole) later.begun_told;
    }
