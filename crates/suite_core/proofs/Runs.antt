-- Runs of a suite.
use Rattle.std.proofs.Common.{◌≡◌, ℕ, zero, suc, ◌+◌, ◌<◌, ◌≤◌, true, false, not, ◌||◌, List, [], ◌∷◌, ◌++◌, length}
use Rattle.std.proofs.Common.{take, drop, get_or, map, refl, sym, subst, ap, ◌∙◌, arith, Option, Some, None}
use Rattle.std.proofs.Common.{if◌then◌else◌, is_none, length-append, length-take, append_assoc, append-nil}
use Rattle.std.specs.Prelude.{slice_get}
use Rattle.std.specs.List.{All, AllByRecursion, AllPairs, filter, list_any}
use Rattle.std.specs.Option.{option_map}
use Rattle.std.proofs.lemmas.List.Elements.{recursion_from_All, All-nil, All-cons, All-head, All-tail, All-append}
use Rattle.std.proofs.lemmas.List.Elements.{All-filter}
use Rattle.std.proofs.lemmas.List.{take_more, take-take, take-append-drop}
use Rattle.tai_status.specs.Label.{Tai64n}
use Rattle.sup_core.specs.declared.event.Event.{Event}
use Rattle.sup_core.specs.History.{state_of, phase_of}
use Rattle.sup_core.specs.Runs.{after}
use Rattle.sup_core.specs.Rules.{IsEvent, next, reply_to}
use Rattle.sup_core.specs.State.{State}
use Rattle.sup_core.proofs.Laws.{reply_to-state, next-state}
use Rattle.sup_trace.specs.Trace.{Kept, IsTrace, history_of, replay, noted_if_taken, noted_along}
use Rattle.sup_trace.proofs.Laws.{IsTrace-new, IsTrace-noted_if_taken, replay-noted_along, noted_along-taken}
use Rattle.sup_trace.proofs.Laws.{replay-noted_if_taken}
use Rattle.scan_table.specs.declared.part.PartId.{PartId}
use Rattle.scan_table.specs.Slots.{Row, SlotState}
use Rattle.scan_table.specs.Scan.{drops, starts, restarts, needs}
use Rattle.scan_table.specs.Table.{TableState, scanned, after_end, AreFresh, between}
use Rattle.scan_table.specs.Index.{IsBefore, IsNumbered}
use Rattle.scan_table.proofs.Given.{starts-fresh, restarts-fresh}
use Rattle.scan_table.proofs.After.{ended-rising, ended-below, scanned-rising, scanned-numbered, all-map}
use Rattle.suite_lines.specs.declared.event.SuiteEvent.{SuiteEvent}
use Rattle.suite_lines.specs.declared.event.SuiteEvent.TheVariants.{Scan, At}
use Rattle.suite_lines.specs.declared.out.StepOut.{StepOut}
use Rattle.suite_lines.specs.declared.out.StepOut.TheVariants as out
use Rattle.suite_core.specs.declared.fault.StepFault.TheVariants as fault
use Rattle.suite_core.specs.Parts.{PartState, is_part, is_place, trace_of, has_ended, part_after, parts_after}
use Rattle.suite_core.specs.Parts.{restarted_in, is_of}
use Rattle.suite_core.specs.Suite.{SuiteState, IsSuiteEvent, refusal, Beginning, beginning, begun_part, opening}
use Rattle.suite_core.specs.Suite.{outs_at, outs_of, suite_at, suite_scanned, table_noted, changed, parts_scanned}
use Rattle.suite_core.specs.Suite.{scan_starts, scan_restarts, suite_after}
use Rattle.suite_core.specs.Run.{suite_along, outs_along, AreAccepted, Ran, own_events, own_between, Follows}
use Rattle.suite_core.specs.Run.{FollowsIfThere, GoByOwnEvents, ReplyByOwnHistory, is_taken_away, is_named, LeaveOthers}
use Rattle.suite_core.specs.Run.{GoesByOwnEvent, RepliesByOwnHistory, LeavesOthers}
use Rattle.suite_core.specs.Places.{IsSuite}
use Rattle.suite_core.proofs.Names.{is_part-same, is_part-later}
use Rattle.suite_core.proofs.Traces.{noted_where, trace_of-after, AreOthers, is_among, is_replaced, restarted-one}
use Rattle.suite_core.proofs.Traces.{trace_of-changed}
use Rattle.suite_core.proofs.Tied.{tied-at, tied-scan, parts-rise, parts-below}

-- A property of a part that is there

pub part-there : (P : PartState → Type 0) (parts : List PartState) (id : PartId) (kept : Kept) → All P parts
    → trace_of parts id ≡ Some kept →
    (part : PartState) × P part × (part.id ≡ id) × (part.trace ≡ kept)
part-there P [] id kept all at = absurd (cc)
part-there P (part ∷ parts) id kept all at =
    elim (is_part part.id id) as (λ b. is_part part.id id ≡ b → (if b then Some part.trace else trace_of parts id)
    ≡ Some kept →
    (p : PartState) × P p × (p.id ≡ id) × (p.trace ≡ kept)) [
      | true ↦ λ here at. let same : part.trace ≡ kept = cc in
          (part, All-head P part parts all, is_part-same part.id id here, same)
      | false ↦ λ here at. part-there P parts id kept (All-tail P part parts all) at
    ] refl at

pub life-below : (suite : SuiteState) (id : PartId) (kept : Kept) → IsSuite suite → trace_of suite.parts id ≡ Some kept
    → id.life < suite.table.next
life-below suite id kept is at =
    let found = part-there (λ (part : PartState). part.id.life < suite.table.next) suite.parts id kept
    (parts-below suite.table suite.parts is.numbered is.tied) at in
    subst (λ (a : PartId). a.life < suite.table.next) found.2 found.1

pub trace-there : (suite : SuiteState) (id : PartId) (kept : Kept) → IsSuite suite → trace_of suite.parts id ≡ Some kept
    → IsTrace kept
trace-there suite id kept is at =
    let found = part-there (λ (part : PartState). IsTrace part.trace) suite.parts id kept is.traces at in
    subst IsTrace found.3 found.1

-- A suite after an event is a suite.

traces-after : (id : PartId) (event : Event) (parts : List PartState) → IsEvent event
    → All (λ (part : PartState). IsTrace part.trace) parts →
    All (λ (part : PartState). IsTrace part.trace) (parts_after id event parts)
traces-after id event parts condition traces =
    all-map (λ (part : PartState). IsTrace part.trace) (λ (part : PartState). IsTrace part.trace) (part_after id event)
    parts
    (λ part is. elim (is_part part.id id) as (λ b.
    IsTrace (if b then record { id = part.id; trace = noted_if_taken part.trace event } else part).trace) [
      | true ↦ IsTrace-noted_if_taken part.trace event is condition
      | false ↦ is
    ]) traces

reported-rising : (table : TableState) (id : PartId) (event : Event) (t : Option Kept) → AllPairs IsBefore table.slots
    → AllPairs IsBefore (table_noted table id event t).slots
reported-rising table id event None rising = rising
reported-rising table id event (Some kept) rising =
    elim (has_ended (noted_if_taken kept event)) as (λ b.
    AllPairs IsBefore (if b then after_end table id else table).slots) [
      | true ↦ ended-rising id table.slots rising
      | false ↦ rising
    ]

reported-numbered : (table : TableState) (id : PartId) (event : Event) (t : Option Kept)
    → All (IsNumbered table.next) table.slots →
    All (IsNumbered (table_noted table id event t).next) (table_noted table id event t).slots
reported-numbered table id event None numbered = numbered
reported-numbered table id event (Some kept) numbered =
    elim (has_ended (noted_if_taken kept event)) as (λ b.
    All (IsNumbered (if b then after_end table id else table).next) (if b then after_end table id else table).slots) [
      | true ↦ ended-below table.next id table.slots numbered
      | false ↦ numbered
    ]

pub IsSuite-at : (suite : SuiteState) (id : PartId) (event : Event) → IsEvent event → IsSuite suite
    → IsSuite (suite_at suite id event)
IsSuite-at suite id event condition is = record {
  room = is.room;
  limit = is.limit;
  rising = reported-rising suite.table id event (trace_of suite.parts id) is.rising;
  numbered = reported-numbered suite.table id event (trace_of suite.parts id) is.numbered;
  tied = tied-at suite.table suite.parts id event (parts-rise suite.table suite.parts is.rising is.tied) is.tied;
  traces = traces-after id event suite.parts condition is.traces;
}

begun-traces : (capacity : ℕ) (label : Tai64n) (begins : List Beginning) → 0 < capacity → capacity ≤ 65536 →
    All (λ (part : PartState). IsTrace part.trace) (map (begun_part capacity label) begins)
begun-traces capacity label [] room limit = All-nil (λ (part : PartState). IsTrace part.trace)
begun-traces capacity label (begins ∷ more) room limit =
    All-cons (λ (part : PartState). IsTrace part.trace) (begun_part capacity label begins)
    (map (begun_part capacity label) more)
    (IsTrace-new (state_of (opening label begins)) capacity room limit) (begun-traces capacity label more room limit)

changed-all : (P : PartState → Type 0) (dropped : List ℕ) (started again parts : List PartState) → All P started
    → All P again → All P parts → All P (changed dropped started again parts)
changed-all P dropped started again parts new news old =
    All-append P (map (restarted_in again) (filter (λ part. not (is_of dropped part)) parts)) started
    (all-map P P (restarted_in again) (filter (λ part. not (is_of dropped part)) parts)
    (λ part is. restarted-one P again part is news)
    (All-filter (λ part. not (is_of dropped part)) P parts old)) new

pub IsSuite-scanned : (suite : SuiteState) (rows : List Row) (label : Tai64n) → IsSuite suite
    → IsSuite (suite_scanned suite rows label)
IsSuite-scanned suite rows label is = record {
  room = is.room;
  limit = is.limit;
  rising = scanned-rising suite.table.slots suite.table.next rows is.rising is.numbered;
  numbered = scanned-numbered suite.table.slots suite.table.next rows is.numbered;
  tied = tied-scan suite rows label is.rising is.tied;
  traces = changed-all (λ (part : PartState). IsTrace part.trace) (drops suite.table.slots rows)
      (map (begun_part suite.capacity label) (scan_starts suite.table rows))
      (map (begun_part suite.capacity label) (scan_restarts suite.table rows)) suite.parts
      (begun-traces suite.capacity label (scan_starts suite.table rows) is.room is.limit)
      (begun-traces suite.capacity label (scan_restarts suite.table rows) is.room is.limit) is.traces;
}

pub IsSuite-after : {A : Type 0} → (suite : SuiteState) (event : SuiteEvent A) → IsSuiteEvent event → IsSuite suite
    → IsSuite (suite_after suite event)
IsSuite-after suite (At id event) condition is = IsSuite-at suite id event condition is
IsSuite-after suite (Scan rows label) condition is = IsSuite-scanned suite rows label is

pub IsSuite-along : {A : Type 0} → (suite : SuiteState) (events : List (SuiteEvent A))
    → AllByRecursion IsSuiteEvent events → IsSuite suite → IsSuite (suite_along suite events)
IsSuite-along suite [] conditions is = is
IsSuite-along suite (event ∷ events) conditions is =
    IsSuite-along (suite_after suite event) events conditions.1 (IsSuite-after suite event conditions.0 is)

-- What a scan means for a part

-- Parts with lives from a number on are none of the parts that were there before.
begun-others : (capacity : ℕ) (label : Tai64n) (slots : List SlotState) (rows : List Row) (low high : ℕ)
    (ids : List PartId) (id : PartId) → id.life < low → AreFresh low high ids →
    AreOthers id (map (begun_part capacity label) (map (beginning slots rows) ids))
begun-others capacity label slots rows low high [] id below fresh =
    All-nil (λ (part : PartState). is_part part.id id ≡ false)
begun-others capacity label slots rows low high (new ∷ ids) id below fresh =
    All-cons (λ (part : PartState). is_part part.id id ≡ false) (begun_part capacity label (beginning slots rows new))
    (map (begun_part capacity label) (map (beginning slots rows) ids))
    (is_part-later new id (let first = All-head (between low high) new ids fresh in omega (arith, first.0, below)))
    (begun-others capacity label slots rows low high ids id below (All-tail (between low high) new ids fresh))

replaced-ids : (capacity : ℕ) (label : Tai64n) (slots : List SlotState) (rows : List Row) (ids : List PartId)
    (id : PartId) →
    is_replaced (map (begun_part capacity label) (map (beginning slots rows) ids)) id
    ≡ list_any (λ (new : PartId). is_place new id) ids
replaced-ids capacity label slots rows [] id = refl
replaced-ids capacity label slots rows (new ∷ ids) id =
    ap (λ b. is_place new id || b) (replaced-ids capacity label slots rows ids id)

pub trace_of-scanned : (suite : SuiteState) (rows : List Row) (label : Tai64n) (id : PartId)
    → id.life < suite.table.next →
    trace_of (parts_scanned suite rows label) id
    ≡ (if is_taken_away suite rows id then None else trace_of suite.parts id)
trace_of-scanned suite rows label id below =
    let slots = suite.table.slots in
    let next = suite.table.next in
    let after = (scanned suite.table rows).slots in
    trace_of-changed (drops slots rows) (map (begun_part suite.capacity label) (scan_starts suite.table rows))
    (map (begun_part suite.capacity label) (scan_restarts suite.table rows)) suite.parts id
    (begun-others suite.capacity label after rows next (next + needs slots rows) (starts slots next rows) id below
    (starts-fresh slots next rows))
    (begun-others suite.capacity label after rows next (next + needs slots rows) (restarts slots next rows) id below
    (restarts-fresh slots next rows))
    ∙ ap (λ b. if is_among (drops slots rows) id || b then None else trace_of suite.parts id)
    (replaced-ids suite.capacity label after rows (restarts slots next rows) id)

-- Runs

abbrev no_trace : Option Kept
no_trace = None

abbrev IsSameOrNone : Option Kept → Kept → Type 0
IsSameOrNone None kept = Unit {0}
IsSameOrNone (Some later) kept = later ≡ kept

-- A part that is no longer in the suite stays away: its life is not given again.
gone-along : {A : Type 0} → (suite : SuiteState) (events : List (SuiteEvent A)) (id : PartId)
    → id.life < suite.table.next → trace_of suite.parts id ≡ None →
    trace_of (suite_along suite events).parts id ≡ None
gone-along suite [] id below none = none
gone-along suite (At other event ∷ events) id below none =
    let next_same : (suite_at suite other event).table.next ≡ suite.table.next =
    elim (trace_of suite.parts other) as (λ t. (table_noted suite.table other event t).next ≡ suite.table.next) [
      | None ↦ refl
      | (Some kept) ↦ elim (has_ended (noted_if_taken kept event)) as (λ b.
          (if b then after_end suite.table other else suite.table).next ≡ suite.table.next)
          [ true ↦ refl | false ↦ refl ]
    ] in
    gone-along (suite_at suite other event) events id (omega (arith, below, next_same))
    (trace_of-after suite.parts other id event ∙ ap (option_map (noted_where (is_part other id) event)) none)
gone-along suite (Scan rows label ∷ events) id below none =
    gone-along (suite_scanned suite rows label) events id (omega (arith, below))
    (trace_of-scanned suite rows label id below
    ∙ ap (λ t. if is_taken_away suite rows id then None else t) none
    ∙ elim (is_taken_away suite rows id) as (λ b. (if b then None else None) ≡ no_trace) [ true ↦ refl | false ↦ refl ])

-- A part is no longer there, or its trace has taken its own events.
own-along : {A : Type 0} → (suite : SuiteState) (events : List (SuiteEvent A)) (id : PartId) (kept : Kept)
    → IsSuite suite → AllByRecursion IsSuiteEvent events →
    trace_of suite.parts id ≡ Some kept
    → IsSameOrNone (trace_of (suite_along suite events).parts id) (noted_along kept (own_events id events))
own-along suite [] id kept is conditions at = subst (λ (t : Option Kept). IsSameOrNone t kept) (sym at) refl
own-along suite (At other event ∷ events) id kept is conditions at =
    let grown : trace_of (parts_after other event suite.parts) id ≡ Some (noted_where (is_part other id) event kept) =
    trace_of-after suite.parts other id event ∙ ap (option_map (noted_where (is_part other id) event)) at in
    let next_is = IsSuite-at suite other event conditions.0 is in
    elim (is_part other id) as (λ b. trace_of (parts_after other event suite.parts) id ≡ Some (noted_where b event kept)
    →
    IsSameOrNone (trace_of (suite_along (suite_at suite other event) events).parts id)
    (noted_along kept (if b then event ∷ own_events id events else own_events id events))) [
      | true ↦ λ grown. own-along (suite_at suite other event) events id (noted_if_taken kept event) next_is
          conditions.1 grown
      | false ↦ λ grown. own-along (suite_at suite other event) events id kept next_is conditions.1 grown
    ] grown
own-along suite (Scan rows label ∷ events) id kept is conditions at =
    let below = life-below suite id kept is at in
    let next_is = IsSuite-scanned suite rows label is in
    let there = trace_of-scanned suite rows label id below in
    elim (is_taken_away suite rows id) as (λ b. trace_of (parts_scanned suite rows label) id
    ≡ (if b then None else trace_of suite.parts id) →
    IsSameOrNone (trace_of (suite_along (suite_scanned suite rows label) events).parts id)
    (noted_along kept (own_events id events))) [
      | true ↦ λ there.
          subst (λ (t : Option Kept). IsSameOrNone t (noted_along kept (own_events id events)))
          (sym (gone-along (suite_scanned suite rows label) events id (omega (arith, below)) there)) tt
      | false ↦ λ there. own-along (suite_scanned suite rows label) events id kept next_is conditions.1 (there ∙ at)
    ] there

pub suite_along-append : {A : Type 0} → (suite : SuiteState) (xs ys : List (SuiteEvent A))
    → suite_along suite (xs ++ ys) ≡ suite_along (suite_along suite xs) ys
suite_along-append suite [] ys = refl
suite_along-append suite (x ∷ xs) ys = suite_along-append (suite_after suite x) xs ys

outs_along-append : {A : Type 0} → (suite : SuiteState) (xs ys : List (SuiteEvent A)) → outs_along suite (xs ++ ys)
    ≡ outs_along suite xs ++ outs_along (suite_along suite xs) ys
outs_along-append suite [] ys = refl
outs_along-append suite (x ∷ xs) ys =
    ap (λ l. outs_of suite x ++ l) (outs_along-append (suite_after suite x) xs ys)
    ∙ sym (append_assoc (outs_of suite x) (outs_along (suite_after suite x) xs)
    (outs_along (suite_along (suite_after suite x) xs) ys))

pub accepted-append : {A : Type 0} → (suite : SuiteState) (xs ys : List (SuiteEvent A)) → AreAccepted suite (xs ++ ys)
    → AreAccepted suite xs × AreAccepted (suite_along suite xs) ys
accepted-append suite [] ys accepted = (tt, accepted)
accepted-append suite (x ∷ xs) ys accepted =
    let rest = accepted-append (suite_after suite x) xs ys accepted.1 in
    ((accepted.0, rest.0), rest.1)

accepted-more : {A : Type 0} → (suite : SuiteState) (events : List (SuiteEvent A)) (event : SuiteEvent A)
    → AreAccepted suite events → refusal (suite_along suite events) event ≡ None →
    AreAccepted suite (events ++ event ∷ [])
accepted-more suite [] event accepted here = (here, tt)
accepted-more suite (e ∷ events) event accepted here =
    (accepted.0, accepted-more (suite_after suite e) events event accepted.1 here)

-- An event that is not refused has one result.
one-out : {A : Type 0} → (suite : SuiteState) (event : SuiteEvent A) → refusal suite event ≡ None
    → length (outs_of suite event) ≡ 1
one-out {A = A} suite (At id event) none =
    elim (trace_of suite.parts id) as (λ t. (if is_none t then Some fault.NoSuchPart else None) ≡ None
    → length (outs_at {A = A} id event t) ≡ 1) [
      | None ↦ λ none. absurd (cc)
      | (Some kept) ↦ λ none. refl
    ] none
one-out suite (Scan rows label) none = refl

-- There are as many outputs as events.
outs-count : {A : Type 0} → (suite : SuiteState) (events : List (SuiteEvent A)) → AreAccepted suite events
    → length (outs_along suite events) ≡ length events
outs-count suite [] accepted = refl
outs-count suite (event ∷ events) accepted =
    omega (
      arith,
      length-append (outs_of suite event) (outs_along (suite_after suite event) events),
      one-out suite event accepted.0,
      outs-count (suite_after suite event) events accepted.1,
    )

-- A run continues by one event.
pub ran-more : {A : Type 0}
    → (suite left after_it : SuiteState) (outs outs_left outs_after : List (StepOut A)) (events : List (SuiteEvent A))
    (n : ℕ) (event : SuiteEvent A) →
    Ran suite left outs outs_left events n → n < length events → event ≡ get_or events n event
    → refusal left event ≡ None → after_it ≡ suite_after left event →
    outs_after ≡ outs_left ++ outs_of left event → Ran suite after_it outs outs_after events (n + 1)
ran-more suite left after_it outs outs_left outs_after events n event ran below at here next_state next_outs =
    let more : take (n + 1) events ≡ take n events ++ event ∷ [] = take_more events n event below
    ∙ ap (λ e. take n events ++ e ∷ []) (sym at) in
    let count : length (take (n + 1) events) ≡ n + 1 = omega (arith, length-take (n + 1) events) in
    let accepted = subst (AreAccepted suite) (sym more)
    (accepted-more suite (take n events) event ran.accepted
    (subst (λ (s : SuiteState). refusal s event ≡ None) ran.state here)) in
    record {
      within = omega arith;
      accepted = accepted;
      count = outs-count suite (take (n + 1) events) accepted ∙ count;
      state = next_state ∙ ap (λ (s : SuiteState). suite_after s event) ran.state
          ∙ sym (ap (suite_along suite) more ∙ suite_along-append suite (take n events) (event ∷ []));
      outs_are = next_outs ∙ ap (λ l. l ++ outs_of left event) ran.outs_are
          ∙ append_assoc outs (outs_along suite (take n events)) (outs_of left event)
          ∙ ap (λ (s : SuiteState). outs ++ (outs_along suite (take n events) ++ outs_of s event)) ran.state
          ∙ ap (λ l. outs ++ l) (sym (ap (outs_along suite) more ∙ outs_along-append suite (take n events) (event ∷ [])
          ∙ ap (λ l. outs_along suite (take n events) ++ l)
          (append-nil (outs_of (suite_along suite (take n events)) event))));
    }

-- The conditions on events

own-conditions : {A : Type 0} → (events : List (SuiteEvent A)) (id : PartId) → AllByRecursion IsSuiteEvent events
    → AllByRecursion IsEvent (own_events id events)
own-conditions [] id conditions = tt
own-conditions (At other event ∷ events) id conditions =
    elim (is_part other id) as (λ b.
    AllByRecursion IsEvent (if b then event ∷ own_events id events else own_events id events)) [
      | true ↦ (conditions.0, own-conditions events id conditions.1)
      | false ↦ own-conditions events id conditions.1
    ]
own-conditions (Scan rows label ∷ events) id conditions = own-conditions events id conditions.1

conditions-take : {A : Type 0} → (events : List (SuiteEvent A)) (n : ℕ) → AllByRecursion IsSuiteEvent events
    → AllByRecursion IsSuiteEvent (take n events)
conditions-take [] zero conditions = tt
conditions-take [] (suc n) conditions = tt
conditions-take (event ∷ events) zero conditions = tt
conditions-take (event ∷ events) (suc n) conditions = (conditions.0, conditions-take events n conditions.1)

conditions-drop : {A : Type 0} → (events : List (SuiteEvent A)) (n : ℕ) → AllByRecursion IsSuiteEvent events
    → AllByRecursion IsSuiteEvent (drop n events)
conditions-drop [] zero conditions = tt
conditions-drop [] (suc n) conditions = tt
conditions-drop (event ∷ events) zero conditions = conditions
conditions-drop (event ∷ events) (suc n) conditions = conditions-drop events n conditions.1

-- A suite at a place of a run is a suite.
pub at-place : {A : Type 0} → (suite : SuiteState) (events : List (SuiteEvent A)) (place : ℕ) → IsSuite suite
    → AllByRecursion IsSuiteEvent events → IsSuite (suite_along suite (take place events))
at-place suite events place is conditions =
    IsSuite-along suite (take place events) (conditions-take events place conditions) is

follows : (t : Option Kept) (kept : Kept) (own : List Event) → Follows kept own (noted_along kept own)
    → IsSameOrNone t (noted_along kept own) → FollowsIfThere kept own t
follows None kept own reported same = tt
follows (Some later) kept own reported same = subst (Follows kept own) (sym same) reported

-- Each part continues by its own events.
pub by-own-events : {A : Type 0} → (suite : SuiteState) (events : List (SuiteEvent A)) (n : ℕ) → IsSuite suite
    → All IsSuiteEvent events → GoByOwnEvents suite events n
by-own-events suite events n is conditions id from to kept ordered within at =
    let all = recursion_from_All IsSuiteEvent events conditions in
    let rest = drop from (take to events) in
    let here = suite_along suite (take from events) in
    let whole : take from events ++ rest ≡ take to events =
    ap (λ l. l ++ rest) (sym (take-take from to events ordered)) ∙ take-append-drop from (take to events) in
    let reached : suite_along suite (take to events) ≡ suite_along here rest = ap (suite_along suite) (sym whole)
    ∙ suite_along-append suite (take from events) rest in
    let own = own_events id rest in
    let here_is = at-place suite events from is all in
    let rest_all = conditions-drop (take to events) from (conditions-take events to all) in
    let later = own-along here rest id kept here_is rest_all at in
    let reported : Follows kept own (noted_along kept own) = record {
      machine = replay-noted_along kept own;
      trace = noted_along-taken kept own (trace-there here id kept here_is at) (own-conditions rest id rest_all);
    } in
    subst (λ (t : Option Kept). FollowsIfThere kept own t) (sym (ap (λ (s : SuiteState). trace_of s.parts id) reached))
    (follows (trace_of (suite_along here rest).parts id) kept own reported later)

-- one more event
pub next-place : {A : Type 0} → (suite : SuiteState) (events : List (SuiteEvent A)) (place : ℕ) (event : SuiteEvent A)
    → slice_get events place ≡ Some event →
    take (suc place) events ≡ take place events ++ event ∷ []
next-place suite [] place event at = absurd (cc)
next-place suite (first ∷ events) zero event at = let same : first ≡ event = cc in ap (λ e. e ∷ []) same
next-place suite (first ∷ events) (suc place) event at = ap (λ l. first ∷ l) (next-place suite events place event at)

-- An event does not change the other parts.
left-one : {A : Type 0} → (suite : SuiteState) (event : SuiteEvent A) (id : PartId) (kept : Kept) → IsSuite suite
    → is_named suite event id ≡ false → trace_of suite.parts id ≡ Some kept →
    trace_of (suite_after suite event).parts id ≡ Some kept
left-one suite (At other event) id kept is unnamed at =
    trace_of-after suite.parts other id event ∙ ap (option_map (noted_where (is_part other id) event)) at
    ∙ ap (λ b. Some (noted_where b event kept)) unnamed
left-one suite (Scan rows label) id kept is unnamed at =
    trace_of-scanned suite rows label id (life-below suite id kept is at)
    ∙ ap (λ b. if b then None else trace_of suite.parts id) unnamed ∙ at

pub leaves-others : {A : Type 0} → (suite : SuiteState) (events : List (SuiteEvent A)) (n : ℕ) → IsSuite suite
    → All IsSuiteEvent events → LeaveOthers suite events n
leaves-others suite events n is conditions place event id kept within here unnamed at =
    let all = recursion_from_All IsSuiteEvent events conditions in
    let before = suite_along suite (take place events) in
    ap (λ l. trace_of (suite_along suite l).parts id) (next-place suite events place event here)
    ∙ ap (λ (s : SuiteState). trace_of s.parts id) (suite_along-append suite (take place events) (event ∷ []))
    ∙ left-one before event id kept (at-place suite events place is all) unnamed at

-- The reply to each event at a part is that of the part's own history.

get-middle : {T : Type 0} (xs ys : List T) (y : T) (n : ℕ) → length xs ≡ n → slice_get (xs ++ y ∷ ys) n ≡ Some y
get-middle [] ys y zero same = refl
get-middle [] ys y (suc n) same = absurd (omega (arith, same))
get-middle (x ∷ xs) ys y zero same = absurd (omega (arith, same))
get-middle (x ∷ xs) ys y (suc n) same = get-middle xs ys y n (omega (arith, same))

-- the outputs of a part with a trace of this history
out-by : {A : Type 0} → (id : PartId) (event : Event) (t : Option Kept) (kept : Kept) (own : List Event)
    → (if is_none t then Some fault.NoSuchPart else None) ≡ None → FollowsIfThere kept own t →
    let past = after (history_of kept) own in
    outs_at {A = A} id event t ≡ out.At id (reply_to past event) (phase_of (next past event)) ∷ []
out-by {A = A} id event None kept own there reported = absurd (cc)
out-by {A = A} id event (Some later) kept own there reported =
    let past = after (history_of kept) own in
    let one : state_of (history_of later) ≡ state_of past = reported.machine in
    let reply : reply_to (history_of later) event ≡ reply_to past event =
    reply_to-state (history_of later) past event one in
    let phase : (replay (noted_if_taken later event)).phase ≡ phase_of (next past event) =
    ap (λ (s : State). s.phase) (replay-noted_if_taken later event ∙ next-state (history_of later) past event one) in
    ap (λ r. out.At id r (replay (noted_if_taken later event)).phase ∷ []) reply
    ∙ ap (λ p. out.At id (reply_to past event) p ∷ []) phase

pub replies-by-history : {A : Type 0} → (suite : SuiteState) (events : List (SuiteEvent A)) (n : ℕ) → IsSuite suite
    → All IsSuiteEvent events → AreAccepted suite (take n events) → ReplyByOwnHistory suite events n
replies-by-history {A = A} suite events n is conditions accepted id from place kept event ordered within at here =
    let before = suite_along suite (take place events) in
    let own = own_between id events from place in
    let past = after (history_of kept) own in
    let followed = by-own-events suite events place is conditions id from place kept ordered (omega arith) at in
    let first : take (suc place) (take n events) ≡ take place events ++ At id event ∷ [] =
    take-take (suc place) n events (omega arith) ∙ next-place suite events place (At id event) here in
    let later = drop (suc place) (take n events) in
    let whole : (take place events ++ At id event ∷ []) ++ later ≡ take n events = ap (λ l. l ++ later) (sym first)
    ∙ take-append-drop (suc place) (take n events) in
    let parted : take place events ++ At id event ∷ later ≡ take n events =
    sym (append_assoc (take place events) (At id event ∷ []) later) ∙ whole in
    let both = accepted-append suite (take place events) (At id event ∷ later)
    (subst (AreAccepted suite) (sym parted) accepted) in
    let one : outs_at {A = A} id event (trace_of before.parts id)
    ≡ out.At id (reply_to past event) (phase_of (next past event)) ∷ [] =
    out-by id event (trace_of before.parts id) kept own both.1.0 followed in
    let inside : place < length events = below-of events place (At id event) here in
    let count : length (outs_along suite (take place events)) ≡ place =
    outs-count suite (take place events) both.0 ∙ (let t = length-take place events in omega (arith, t, inside)) in
    ap (λ l. slice_get (outs_along suite l) place) (sym parted)
    ∙ ap (λ l. slice_get l place) (outs_along-append suite (take place events) (At id event ∷ later)
    ∙ ap (λ l. outs_along suite (take place events) ++ (l ++ outs_along (suite_at before id event) later)) one)
    ∙ get-middle (outs_along suite (take place events)) (outs_along (suite_at before id event) later)
    (out.At id (reply_to past event) (phase_of (next past event))) place count
  where
    below-of : {T : Type 0} (xs : List T) (k : ℕ) (x : T) → slice_get xs k ≡ Some x → k < length xs
    below-of [] k x at = absurd (cc)
    below-of (y ∷ xs) zero x at = omega arith
    below-of (y ∷ xs) (suc k) x at = let b = below-of xs k x at in omega (arith, b)

-- An event of an accepted run is not refused in its turn.
pub accepted-at : {A : Type 0}
    → (suite : SuiteState) (events : List (SuiteEvent A)) (n place : ℕ) (event : SuiteEvent A) → place < n
    → slice_get events place ≡ Some event → AreAccepted suite (take n events) →
    refusal (suite_along suite (take place events)) event ≡ None
accepted-at suite events n place event within here accepted =
    let first : take (suc place) (take n events) ≡ take place events ++ event ∷ [] =
    take-take (suc place) n events (omega arith) ∙ next-place suite events place event here in
    let later = drop (suc place) (take n events) in
    let whole : (take place events ++ event ∷ []) ++ later ≡ take n events = ap (λ l. l ++ later) (sym first)
    ∙ take-append-drop (suc place) (take n events) in
    let parted : take place events ++ event ∷ later ≡ take n events =
    sym (append_assoc (take place events) (event ∷ []) later) ∙ whole in
    (accepted-append suite (take place events) (event ∷ later) (subst (AreAccepted suite) (sym parted) accepted)).1.0

-- One event

module _ {A : Type 0} (suite later : SuiteState) (event : SuiteEvent A) (is : IsSuite suite) where
  pub one-own : IsSuiteEvent event → later ≡ suite_after suite event → GoesByOwnEvent suite event later
  one-own condition goes id kept at =
      subst (λ (s : SuiteState). FollowsIfThere kept (own_events id (event ∷ [])) (trace_of s.parts id)) (sym goes)
      (by-own-events suite (event ∷ []) 1 is
      (All-cons IsSuiteEvent event [] condition (All-nil IsSuiteEvent)) id 0 1 kept (omega arith) (omega arith) at)

  pub one-leaves : later ≡ suite_after suite event → LeavesOthers suite event later
  one-leaves goes id kept unnamed at =
      ap (λ (s : SuiteState). trace_of s.parts id) goes ∙ left-one suite event id kept is unnamed at

  pub one-replies : (outs left : List (StepOut A)) → refusal suite event ≡ None → left ≡ outs ++ outs_of suite event
      → RepliesByOwnHistory suite event outs left
  one-replies outs left free goes id own kept this at =
      let here : (if is_none (trace_of suite.parts id) then Some fault.NoSuchPart else None) ≡ None =
      subst (λ (e : SuiteEvent A). refusal suite e ≡ None) this free in
      goes ∙ ap (λ (e : SuiteEvent A). outs ++ outs_of suite e) this
      ∙ ap (λ (l : List (StepOut A)). outs ++ l)
      (out-by id own (trace_of suite.parts id) kept [] here
      (by-own-events {A = A} suite [] 0 is (All-nil IsSuiteEvent) id 0 0 kept (omega arith) (omega arith) at))
