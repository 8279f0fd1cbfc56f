-- The law that a whole run of a host is a run of a suite.
use Rattle.std.specs.Prelude.{◌≡◌, ◌<◌, ◌≤◌, ⊤, ℕ, Bool, true, false, if◌then◌else◌, List, [], ◌∷◌, ◌++◌, map}
use Rattle.std.specs.Prelude.{Option, Some, None}
use Rattle.std.specs.List.{AllByRecursion}
use Rattle.sup_core.specs.declared.event.Event.{Event}
use Rattle.sup_core.specs.State.{State, is_gone}
use Rattle.sup_core.specs.History.{History, Opened, Then, phase_of}
use Rattle.sup_core.specs.Runs.{AreTaken, followed_by}
use Rattle.sup_trace.specs.Trace.{Kept, new_trace, trace_after}
use Rattle.scan_table.specs.declared.part.PartId.{PartId}
use Rattle.suite_lines.specs.declared.event.SuiteEvent.{SuiteEvent}
use Rattle.suite_core.specs.Parts.{PartState, is_part, trace_of, has_ended}
use Rattle.suite_core.specs.Places.{IsSuite}
use Rattle.suite_core.specs.Suite.{SuiteState, new_suite, refusal, suite_after}
use Rattle.svc_host.specs.Parts.{HostPart}
use Rattle.svc_host.specs.Rounds.{HostState}
use Rattle.svc_host.specs.HostRun.{HostRun, Move}

-- Runs of a suite in which parts may open in another way

-- What a suite does next to a host. It takes an event; or a part that a scan has just begun opens with this machine,
-- not as its row says, because an earlier svscan left it in that state.
pub data Turn (A : Type 0) : Type 0 where
  Takes : (event : SuiteEvent A) → Turn A
  Opens : (part : PartId) → (machine : State) → Turn A

-- the parts, with a new trace of this machine for this one
abbrev pub reopened : PartId → State → (capacity : ℕ) → List PartState → List PartState
reopened id machine capacity [] = []
reopened id machine capacity (part ∷ parts) =
    if is_part part.id id then record { id = part.id; trace = new_trace machine capacity } ∷ parts
    else part ∷ reopened id machine capacity parts

abbrev pub suite_opened : SuiteState → PartId → State → SuiteState
suite_opened suite id machine = record {
  table = suite.table;
  parts = reopened id machine suite.capacity suite.parts;
  capacity = suite.capacity;
}

abbrev pub suite_turned : {A : Type 0} → SuiteState → Turn A → SuiteState
suite_turned suite (Takes event) = suite_after suite event
suite_turned suite (Opens part machine) = suite_opened suite part machine

abbrev pub turned_along : {A : Type 0} → SuiteState → List (Turn A) → SuiteState
turned_along suite [] = suite
turned_along suite (turn ∷ turns) = turned_along (suite_turned suite turn) turns

-- A part opens in another way only if it has just begun, and none of its events has been published.
pub record IsNew (suite : SuiteState) (part : PartId) : Type 0 where
  pub machine : State
  pub trace : trace_of suite.parts part ≡ Some (new_trace machine suite.capacity)
  pub alive : is_gone machine.phase ≡ false

abbrev pub IsAccepted : {A : Type 0} → SuiteState → Turn A → Type 0
IsAccepted suite (Takes event) = refusal suite event ≡ None
IsAccepted suite (Opens part machine) = IsNew suite part × (is_gone machine.phase ≡ false)

abbrev pub AllAccepted : {A : Type 0} → SuiteState → List (Turn A) → Type 0
AllAccepted suite [] = ⊤
AllAccepted suite (turn ∷ turns) = IsAccepted suite turn × AllAccepted (suite_turned suite turn) turns

-- A suite next to a host

-- these events up to the one after which the machine is gone
abbrev pub before_end : History → List Event → List Event
before_end past [] = []
before_end past (event ∷ events) =
    if is_gone (phase_of (Then past event)) then [] else event ∷ before_end (Then past event) events

-- The suite takes what the host has read. It takes the last event of a part only when the host joins its thread,
-- because only then does the table learn of its end.
abbrev pub told : State → List Event → (has_ended : Bool) → List Event
told machine known has_ended = if has_ended then known else before_end (Opened machine) known

pub record IsToldOf (suite : SuiteState) (id : PartId) (machine : State) (known : List Event) (has_ended : Bool)
    : Type 0 where
  pub begun : is_gone machine.phase ≡ false
  pub taken : AreTaken (Opened machine) known
  pub gone : has_ended ≡ true → is_gone (phase_of (followed_by (Opened machine) known)) ≡ true
  pub trace : trace_of suite.parts id ≡ Some (trace_after machine suite.capacity (told machine known has_ended))

abbrev pub IsTold : SuiteState → HostPart → Type 0
IsTold suite part = IsToldOf suite part.id part.station.opening part.known part.has_ended

abbrev pub ids_of : List HostPart → List PartId
ids_of parts = map (λ (part : HostPart). part.id) parts

-- No two of these ids are those of one part.
abbrev pub AreApart : List PartId → Type 0
AreApart [] = ⊤
AreApart (id ∷ ids) = AllByRecursion (λ (other : PartId). is_part id other ≡ false) ids × AreApart ids

-- The suite has the host's table, and for each part of the host the trace of its own events.
pub record StandsFor (suite : SuiteState) (host : HostState) : Type 0 where
  pub suite_is : IsSuite suite
  pub table : suite.table ≡ host.table
  pub apart : AreApart (ids_of host.parts)
  pub parts : AllByRecursion (IsTold suite) host.parts

-- what a suite that stands for a host does, so that it stands for what the host has become
pub record Follows (A : Type 0) (suite : SuiteState) (new : HostState) : Type 0 where
  pub turns : List (Turn A)
  pub accepted : AllAccepted suite turns
  pub stands : StandsFor (turned_along suite turns) new

-- A whole run of a host is a run of each suite that stands for it.
abbrev pub RunsAreOfSuites : Type 0 → Type 0
RunsAreOfSuites A =
    (suite : SuiteState) (old new : HostState) (moves : List Move)
    → StandsFor suite old → HostRun moves old new → Follows A suite new

-- What was done with a host so far is a run of a new suite, for traces of any capacity.
abbrev pub IsOfSuite : Type 0 → HostState → Type 0
IsOfSuite A host =
    (capacity : ℕ) → 0 < capacity → capacity ≤ 65536 → Follows A (new_suite 0 capacity) host
