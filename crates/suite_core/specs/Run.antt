-- Runs of a suite, and what they mean for one part.
use Rattle.std.specs.Prelude.{◌≡◌, ℕ, ◌<◌, ◌≤◌, Bool, false, List, [], ◌∷◌, ◌++◌, length, take, drop}
use Rattle.std.specs.Prelude.{if◌then◌else◌, Option, Some, None, Result, Ok, Err, slice_get, ⊤, suc, ◌==◌, ◌||◌}
use Rattle.std.specs.List.{All, list_any}
use Rattle.tai_status.specs.Label.{Tai64n}
use Rattle.sup_core.specs.declared.event.Event.{Event}
use Rattle.sup_core.specs.History.{state_of, phase_of}
use Rattle.sup_core.specs.Runs.{after, taken_of}
use Rattle.sup_core.specs.Rules.{next, reply_to}
use Rattle.sup_trace.specs.Trace.{Kept, history_of, replay, noted, new_trace}
use Rattle.scan_table.specs.declared.part.PartId.{PartId}
use Rattle.scan_table.specs.Slots.{Row}
use Rattle.scan_table.specs.Scan.{drops, restarts}
use Rattle.suite_lines.specs.declared.event.SuiteEvent.{SuiteEvent}
use Rattle.suite_lines.specs.declared.event.SuiteEvent.TheVariants.{Scan, At}
use Rattle.suite_lines.specs.declared.out.StepOut.{StepOut}
use Rattle.suite_lines.specs.declared.out.StepOut.TheVariants as out
use Rattle.suite_core.specs.declared.fault.SuiteFault.{SuiteFault}
use Rattle.suite_core.specs.Parts.{is_part, is_place, trace_of}
use Rattle.suite_core.specs.Suite.{SuiteState, Beginning, opening, scan_starts, scan_restarts, outs_of, suite_after}
use Rattle.suite_core.specs.Suite.{refusal}

-- the suite after these events, one after another
abbrev pub suite_along : {A : Type 0} → SuiteState → List (SuiteEvent A) → SuiteState
suite_along suite [] = suite
suite_along suite (event ∷ events) = suite_along (suite_after suite event) events

-- the results of these events, one after another
abbrev pub outs_along : {A : Type 0} → SuiteState → List (SuiteEvent A) → List (StepOut A)
outs_along suite [] = []
outs_along suite (event ∷ events) = outs_of suite event ++ outs_along (suite_after suite event) events

-- None of these events is refused in its turn.
abbrev pub AreAccepted : {A : Type 0} → SuiteState → List (SuiteEvent A) → Type 0
AreAccepted suite [] = ⊤
AreAccepted suite (event ∷ events) = (refusal suite event ≡ None) × AreAccepted (suite_after suite event) events

-- The first n of these events were taken, with one output for each.
pub record Ran {A : Type 0} (suite left : SuiteState) (outs outs_left : List (StepOut A))
    (events : List (SuiteEvent A)) (n : ℕ) : Type 0 where
  pub within : n ≤ length events
  pub accepted : AreAccepted suite (take n events)
  pub state : left ≡ suite_along suite (take n events)
  pub count : length (outs_along suite (take n events)) ≡ n
  pub outs_are : outs_left ≡ outs ++ outs_along suite (take n events)

-- how many events of a list were taken: those before the place of the fault
abbrev pub done : ℕ → {T : Type 0} → Result T SuiteFault → ℕ
done count (Ok all) = count
done count (Err why) = why.place

-- the events at a part, in order
abbrev pub own_events : {A : Type 0} → PartId → List (SuiteEvent A) → List Event
own_events id [] = []
own_events id (At other event ∷ events) =
    if is_part other id then event ∷ own_events id events else own_events id events
own_events id (Scan rows label ∷ events) = own_events id events

-- the events at a part between two places
abbrev pub own_between : {A : Type 0} → PartId → List (SuiteEvent A) → (from to : ℕ) → List Event
own_between id events from to = own_events id (drop from (take to events))

-- the trace that a part has at a place of a run: before the event there
abbrev pub trace_at : {A : Type 0} → SuiteState → List (SuiteEvent A) → ℕ → PartId → Option Kept
trace_at suite events place id = trace_of (suite_along suite (take place events)).parts id

-- A part's later trace follows from its earlier one by events of its own. Its machine is the state of the earlier
-- history, followed by those of these events that are taken. Its trace is the one after those events.
pub record Follows (kept : Kept) (events : List Event) (later : Kept) : Type 0 where
  pub machine : replay later ≡ state_of (after (history_of kept) events)
  pub trace : later ≡ noted kept (taken_of (history_of kept) events)

-- The same, if the part is there. A part that is no longer in the suite was dropped, or restarted in a new life.
abbrev pub FollowsIfThere : Kept → List Event → Option Kept → Type 0
FollowsIfThere kept events None = ⊤
FollowsIfThere kept events (Some later) = Follows kept events later

-- Each part continues by its own events alone, from any place of a run to any later one.
abbrev pub GoByOwnEvents : {A : Type 0} → SuiteState → List (SuiteEvent A) → ℕ → Type 0
GoByOwnEvents suite events n =
    (id : PartId) (from to : ℕ) (kept : Kept) → from ≤ to → to ≤ n → trace_at suite events from id ≡ Some kept
    → FollowsIfThere kept (own_between id events from to) (trace_at suite events to id)

-- The reply to each event at a part is that of the part's own history, from any earlier place on.
abbrev pub ReplyByOwnHistory : {A : Type 0} → SuiteState → List (SuiteEvent A) → ℕ → Type 0
ReplyByOwnHistory suite events n =
    (id : PartId) (from place : ℕ) (kept : Kept) (event : Event) → from ≤ place → place < n
    → trace_at suite events from id ≡ Some kept → slice_get events place ≡ Some (At id event)
    → let past = after (history_of kept) (own_between id events from place) in
    slice_get (outs_along suite (take n events)) place
    ≡ Some (out.At id (reply_to past event) (phase_of (next past event)))

-- whether a scan removes a part: it drops its slot, or restarts it in a new life
abbrev pub is_taken_away : SuiteState → List Row → PartId → Bool
is_taken_away suite rows id =
    list_any (λ slot. id.slot == slot) (drops suite.table.slots rows)
    || list_any (λ (new : PartId). is_place new id) (restarts suite.table.slots suite.table.next rows)

-- whether an event concerns a part: it is at the part, or is a scan that removes the part
abbrev pub is_named : {A : Type 0} → SuiteState → SuiteEvent A → PartId → Bool
is_named suite (At other event) id = is_part other id
is_named suite (Scan rows label) id = is_taken_away suite rows id

-- An event does not change the parts that it does not concern.
abbrev pub LeaveOthers : {A : Type 0} → SuiteState → List (SuiteEvent A) → ℕ → Type 0
LeaveOthers {A = A} suite events n =
    (place : ℕ) (event : SuiteEvent A) (id : PartId) (kept : Kept) → place < n → slice_get events place ≡ Some event
    → is_named (suite_along suite (take place events)) event id ≡ false → trace_at suite events place id ≡ Some kept
    → trace_at suite events (suc place) id ≡ Some kept

-- Each part that a scan begins is there after the scan. Its history begins with the `down` of its row, at the scan's
-- label.
abbrev pub BeginAsRowsSay : {A : Type 0} → SuiteState → List (SuiteEvent A) → ℕ → Type 0
BeginAsRowsSay suite events n =
    (place : ℕ) (rows : List Row) (label : Tai64n) → place < n → slice_get events place ≡ Some (Scan rows label)
    → let before = suite_along suite (take place events) in
    All (λ (begun : Beginning). trace_at suite events (suc place) begun.part
    ≡ Some (new_trace (state_of (opening label begun)) before.capacity))
    (scan_starts before.table rows ++ scan_restarts before.table rows)

-- The same for one event

-- The reply to an event at a part that is there is that of the part's own history.
abbrev pub RepliesByOwnHistory : {A : Type 0} → SuiteState → SuiteEvent A → (outs left : List (StepOut A)) → Type 0
RepliesByOwnHistory suite event outs left =
    (id : PartId) (own : Event) (kept : Kept) → event ≡ At id own → trace_of suite.parts id ≡ Some kept
    → let past = history_of kept in
    left ≡ outs ++ out.At id (reply_to past own) (phase_of (next past own)) ∷ []

-- Each part continues by the event if it is at that part, and does not change otherwise.
abbrev pub GoesByOwnEvent : {A : Type 0} → SuiteState → SuiteEvent A → (later : SuiteState) → Type 0
GoesByOwnEvent suite event later =
    (id : PartId) (kept : Kept) → trace_of suite.parts id ≡ Some kept
    → FollowsIfThere kept (own_events id (event ∷ [])) (trace_of later.parts id)

-- Each part that the event does not concern is as it was.
abbrev pub LeavesOthers : {A : Type 0} → SuiteState → SuiteEvent A → (later : SuiteState) → Type 0
LeavesOthers suite event later =
    (id : PartId) (kept : Kept) → is_named suite event id ≡ false → trace_of suite.parts id ≡ Some kept
    → trace_of later.parts id ≡ Some kept

-- Each part that a scan begins is there after the scan. Its history begins with the `down` of its row, at the scan's
-- label.
abbrev pub BeginsAsRowsSay : {A : Type 0} → SuiteState → SuiteEvent A → (later : SuiteState) → Type 0
BeginsAsRowsSay suite event later =
    (rows : List Row) (label : Tai64n) → event ≡ Scan rows label
    → All (λ (begun : Beginning). trace_of later.parts begun.part
    ≡ Some (new_trace (state_of (opening label begun)) suite.capacity))
    (scan_starts suite.table rows ++ scan_restarts suite.table rows)
