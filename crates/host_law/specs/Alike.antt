-- What a host of threads has in common with a suite that is stepped.
use Rattle.std.specs.Prelude.{◌≡◌, ℕ, ◌<◌, ◌≤◌, false, not, if◌then◌else◌, List, [], ◌∷◌, ◌++◌, map, Some}
use Rattle.std.specs.List.{filter, All}
use Rattle.tai_status.specs.Label.{Tai64n}
use Rattle.sup_core.specs.declared.asks.Reply.TheVariants.{Took}
use Rattle.sup_core.specs.declared.event.Event.{Event}
use Rattle.sup_core.specs.State.{State, is_gone}
use Rattle.sup_core.specs.History.{History, Opened, Then, phase_of, state_of}
use Rattle.sup_core.specs.Rules.{asks_of}
use Rattle.sup_core.specs.Runs.{AreTaken, followed_by}
use Rattle.sup_trace.specs.Trace.{new_trace, replay, trace_after}
use Rattle.scan_table.specs.declared.part.PartId.{PartId}
use Rattle.scan_table.specs.Slots.{Row}
use Rattle.scan_table.specs.Table.{after_end, scanned}
use Rattle.suite_lines.specs.declared.event.SuiteEvent.{SuiteEvent}
use Rattle.suite_lines.specs.declared.event.SuiteEvent.TheVariants.{At}
use Rattle.suite_lines.specs.declared.out.StepOut.{StepOut}
use Rattle.suite_lines.specs.declared.out.StepOut.TheVariants as out
use Rattle.suite_core.specs.Parts.{trace_of}
use Rattle.suite_core.specs.Suite.{SuiteState, Beginning, beginning, opening, scan_out, scan_starts, scan_restarts}
use Rattle.suite_core.specs.Suite.{suite_scanned}
use Rattle.suite_core.specs.Run.{is_taken_away, outs_along, suite_along}
use Rattle.svc_record.specs.declared.opening.Opening.TheVariants.{ByRow}
use Rattle.svc_host.specs.declared.host.HostOut.{HostOut}
use Rattle.svc_host.specs.Parts.{HostPart}
use Rattle.svc_host.specs.Begun.{IsBegun}
use Rattle.svc_host.specs.Rounds.{HostState, IsParted, IsScanned, after_ends, unmade_ids}

-- Scans

-- the part that begins
abbrev pub part_of : Beginning → PartId
part_of begun = begun.part

-- A part of a host that begins by its row begins as a scan of the suite begins the part with that id: with the same
-- machine, and nothing after it. If an earlier svscan left something, which no suite does, it may begin in another way.
abbrev pub BeginsAlike : SuiteState → List Row → Tai64n → HostPart → Type 0
BeginsAlike suite rows label part =
    part.opening ≡ ByRow
    → IsBegun part.id (opening label (beginning (scanned suite.table rows).slots rows part.id)) part

-- A scan of a host, compared with a scan of a suite, for the same rows and label.
pub record IsScanAlike (suite : SuiteState) (rows : List Row) (label : Tai64n)
    (old : HostState) (out : HostOut) (new : HostState) : Type 0 where
  -- Both return the same starts, restarts, drops and refusals.
  pub answer : out.scan ≡ scan_out suite.table rows
  -- Both come to the same table, except for the parts that the host could not make: these have ended.
  pub table : new.table ≡ after_ends (unmade_ids out.failed.items) (suite_scanned suite rows label).table
  -- The parts that stay are those that the suite does not take away. The parts that begin come after them.
  pub begun : List HostPart
  pub parts : new.parts ≡ filter (λ (part : HostPart). not (is_taken_away suite rows part.id)) old.parts ++ begun
  pub each : All (BeginsAlike suite rows label) begun
  -- These and the ones that could not be made are all that the suite begins, in its order.
  pub all : IsParted (map part_of (scan_starts suite.table rows ++ scan_restarts suite.table rows))
      (map (λ (part : HostPart). part.id) begun) (unmade_ids out.failed.items)

abbrev pub ScansAreAlike : Type 0
ScansAreAlike =
    (suite : SuiteState) (rows : List Row) (label : Tai64n) (old : HostState) (out : HostOut) (new : HostState)
    → suite.table ≡ old.table → IsScanned old rows label out new → IsScanAlike suite rows label old out new

-- Events of a part

-- these events, each at a part
abbrev pub at_part : {A : Type 0} → PartId → List Event → List (SuiteEvent A)
at_part part events = map (λ event. At part event) events

-- what the suite returns for a part that takes each of these events: the asks and the phase of its own history
abbrev pub answers_along : {A : Type 0} → PartId → History → List Event → List (StepOut A)
answers_along part past [] = []
answers_along part past (event ∷ events) =
    out.At part (Took (asks_of past event)) (phase_of (Then past event)) ∷ answers_along part (Then past event) events

-- What becomes of a suite after events of one of its parts, if that part takes them all.
pub record GoesAlong (A : Type 0) (suite : SuiteState) (part : PartId) (machine : State)
    (capacity : ℕ) (events : List Event) : Type 0 where
  -- The part's trace is that of these events, and replays to the machine after them.
  pub trace : trace_of (suite_along suite (at_part {A = A} part events)).parts part
      ≡ Some (trace_after machine capacity events)
  pub replays : replay (trace_after machine capacity events) ≡ state_of (followed_by (Opened machine) events)
  -- The answer to each event is what the part's own history says.
  pub answers : outs_along suite (at_part {A = A} part events) ≡ answers_along part (Opened machine) events
  -- The table records the end of the part exactly if the part is gone.
  pub table : (suite_along suite (at_part {A = A} part events)).table
      ≡ (if is_gone (phase_of (followed_by (Opened machine) events)) then after_end suite.table part else suite.table)

abbrev pub PartsPublishAlike : Type 0 → Type 0
PartsPublishAlike A =
    (suite : SuiteState) (part : PartId) (machine : State) (capacity : ℕ) (events : List Event)
    → 0 < capacity → capacity ≤ 65536 → is_gone machine.phase ≡ false → AreTaken (Opened machine) events
    → trace_of suite.parts part ≡ Some (new_trace machine capacity) → GoesAlong A suite part machine capacity events
