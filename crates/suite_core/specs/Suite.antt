-- A suite of services, and its steps.
use Rattle.std.specs.Prelude.{◌≡◌, ℕ, Bool, false, not, List, [], ◌∷◌, ◌++◌, map, if◌then◌else◌}
use Rattle.std.specs.Prelude.{Option, Some, None, is_none, ⊤}
use Rattle.std.specs.List.{filter}
use Rattle.tai_status.specs.Label.{Tai64n}
use Rattle.sup_core.specs.declared.event.Event.{Event}
use Rattle.sup_core.specs.History.{History, Begin, state_of, phase_of}
use Rattle.sup_core.specs.Rules.{IsEvent, asks_of_begin, reply_to}
use Rattle.sup_trace.specs.Trace.{Kept, history_of, replay, noted_if_taken, new_trace}
use Rattle.scan_table.specs.declared.part.PartId.{PartId}
use Rattle.scan_table.specs.declared.part.Role.{Role}
use Rattle.scan_table.specs.declared.fault.ScanFault.{ScanFault}
use Rattle.scan_table.specs.declared.table.ScanOut.{ScanOut}
use Rattle.scan_table.specs.Slots.{Row, SlotState, is_down}
use Rattle.scan_table.specs.Scan.{starts, restarts, drops, refused}
use Rattle.scan_table.specs.Order.{scan_refusal, row_of}
use Rattle.scan_table.specs.Table.{TableState, new_table, scanned, after_end, slot_at}
use Rattle.suite_lines.specs.declared.event.SuiteEvent.{SuiteEvent}
use Rattle.suite_lines.specs.declared.event.SuiteEvent.TheVariants.{Scan, At}
use Rattle.suite_lines.specs.declared.out.Begun.{Begun}
use Rattle.suite_lines.specs.declared.out.StepOut.{StepOut}
use Rattle.suite_lines.specs.declared.out.StepOut.TheVariants as out
use Rattle.suite_core.specs.declared.fault.StepFault.{StepFault}
use Rattle.suite_core.specs.declared.fault.StepFault.TheVariants as fault
use Rattle.suite_core.specs.Parts.{PartState, trace_of, has_ended, parts_after, restarted_in, is_of}

-- The table of slots; the parts in the order of their slots, each service before its logger; and the capacity of new
-- traces.
pub record SuiteState : Type 0 where
  pub table : TableState
  pub parts : List PartState
  pub capacity : ℕ

-- a suite without parts
abbrev pub new_suite : ℕ → ℕ → SuiteState
new_suite next capacity = record { table = new_table next; parts = []; capacity = capacity }

-- The condition on an event: a process that was started has a number of at least 1.
abbrev pub IsSuiteEvent : {A : Type 0} → SuiteEvent A → Type 0
IsSuiteEvent (At id event) = IsEvent event
IsSuiteEvent (Scan rows label) = ⊤

-- Why an event is refused, apart from a lack of memory

abbrev pub fault_of_scan : Option ScanFault → Option StepFault
fault_of_scan None = None
fault_of_scan (Some why) = Some (fault.Scan why)

-- An event at a part that is not there is refused.
abbrev pub refusal_at : SuiteState → PartId → Option StepFault
refusal_at suite id = if is_none (trace_of suite.parts id) then Some fault.NoSuchPart else None

-- A scan that the table refuses is refused.
abbrev pub refusal_of_scan : SuiteState → List Row → Option StepFault
refusal_of_scan suite rows = fault_of_scan (scan_refusal suite.table rows)

abbrev pub refusal : {A : Type 0} → SuiteState → SuiteEvent A → Option StepFault
refusal suite (At id event) = refusal_at suite id
refusal suite (Scan rows label) = refusal_of_scan suite rows

-- Memory is reported as lacking only if nothing else is wrong.
abbrev pub IsCause : Option StepFault → StepFault → Type 0
IsCause refused fault.OutOfMemory = refused ≡ None
IsCause refused why = refused ≡ Some why

-- An event at a part

-- the table, with a note that the part has ended if the event ends it
abbrev pub table_noted : TableState → PartId → Event → Option Kept → TableState
table_noted table id event None = table
table_noted table id event (Some kept) = if has_ended (noted_if_taken kept event) then after_end table id else table

-- the result at a part with this trace
abbrev pub outs_at : {A : Type 0} → PartId → Event → Option Kept → List (StepOut A)
outs_at id event None = []
outs_at id event (Some kept) =
    out.At id (reply_to (history_of kept) event) (replay (noted_if_taken kept event)).phase ∷ []

-- A scan

-- a part that a scan begins, and whether the service, or the logger, has a file `down`
pub record Beginning : Type 0 where
  pub part : PartId
  pub down : Bool

abbrev pub says_down : Role → Option Row → Bool
says_down role None = false
says_down role (Some row) = is_down role row

-- the `down` in the row with a slot's name
abbrev pub down_where : List Row → Role → Option SlotState → Bool
down_where rows role None = false
down_where rows role (Some slot) = says_down role (row_of rows slot.name)

-- a part, with the `down` from the row of its service
abbrev pub beginning : List SlotState → List Row → PartId → Beginning
beginning slots rows part = record { part = part; down = down_where rows part.role (slot_at slots part.slot) }

-- those of these parts; each belongs to a slot of the table after the scan
abbrev pub beginnings : TableState → List Row → List PartId → List Beginning
beginnings table rows parts = map (beginning (scanned table rows).slots rows) parts

-- A begun part's history opens with a begin.
abbrev pub opening : Tai64n → Beginning → History
opening label beginning = Begin beginning.down label

abbrev pub begun_part : ℕ → Tai64n → Beginning → PartState
begun_part capacity label beginning =
    record { id = beginning.part; trace = new_trace (state_of (opening label beginning)) capacity }

abbrev pub begun_out : Tai64n → Beginning → Begun
begun_out label beginning =
    record {
      part = beginning.part;
      asks = asks_of_begin (opening label beginning);
      phase = phase_of (opening label beginning);
    }

-- the parts that a scan starts, and those that it restarts
abbrev pub scan_starts : TableState → List Row → List Beginning
scan_starts table rows = beginnings table rows (starts table.slots table.next rows)

abbrev pub scan_restarts : TableState → List Row → List Beginning
scan_restarts table rows = beginnings table rows (restarts table.slots table.next rows)

-- the result of a scan
abbrev pub scan_out : {A : Type 0} → TableState → List Row → ScanOut A
scan_out table rows =
    record {
      starts = starts table.slots table.next rows;
      restarts = restarts table.slots table.next rows;
      drops = drops table.slots rows;
      refused = refused table.slots rows;
    }

abbrev pub scan_begun : TableState → List Row → Tai64n → List Begun
scan_begun table rows label = map (begun_out label) (scan_starts table rows ++ scan_restarts table rows)

-- The parts after a scan: those of dropped slots are gone, each restarted part has its old place, and the started parts
-- come last.
abbrev pub changed : List ℕ → List PartState → List PartState → List PartState → List PartState
changed dropped started restarted parts =
    map (restarted_in restarted) (filter (λ part. not (is_of dropped part)) parts) ++ started

abbrev pub parts_scanned : SuiteState → List Row → Tai64n → List PartState
parts_scanned suite rows label =
    changed (drops suite.table.slots rows)
    (map (begun_part suite.capacity label) (scan_starts suite.table rows))
    (map (begun_part suite.capacity label) (scan_restarts suite.table rows))
    suite.parts

-- Steps

abbrev pub outs_of_scan : {A : Type 0} → SuiteState → List Row → Tai64n → List (StepOut A)
outs_of_scan suite rows label = out.Scanned (scan_out suite.table rows) (scan_begun suite.table rows label) ∷ []

-- the result of an event that is not refused
abbrev pub outs_of : {A : Type 0} → SuiteState → SuiteEvent A → List (StepOut A)
outs_of suite (At id event) = outs_at id event (trace_of suite.parts id)
outs_of suite (Scan rows label) = outs_of_scan suite rows label

-- the suite after an event at a part
abbrev pub suite_at : SuiteState → PartId → Event → SuiteState
suite_at suite id event =
    record {
      table = table_noted suite.table id event (trace_of suite.parts id);
      parts = parts_after id event suite.parts;
      capacity = suite.capacity;
    }

-- the suite after a scan
abbrev pub suite_scanned : SuiteState → List Row → Tai64n → SuiteState
suite_scanned suite rows label =
    record {
      table = scanned suite.table rows;
      parts = parts_scanned suite rows label;
      capacity = suite.capacity;
    }

abbrev pub suite_after : {A : Type 0} → SuiteState → SuiteEvent A → SuiteState
suite_after suite (At id event) = suite_at suite id event
suite_after suite (Scan rows label) = suite_scanned suite rows label
