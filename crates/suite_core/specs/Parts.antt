-- The parts of a suite: the services and loggers that svscan keeps running (cr.yp.to/daemontools/svscan.html), each in
-- one life, with its trace.
use Rattle.std.specs.Prelude.{ℕ, ◌==◌, ◌&&◌, Bool, not, List, [], ◌∷◌, map}
use Rattle.std.specs.Prelude.{if◌then◌else◌, Option, Some, None}
use Rattle.std.specs.List.{list_any}
use Rattle.sup_core.specs.declared.event.Event.{Event}
use Rattle.sup_core.specs.State.{is_gone}
use Rattle.sup_trace.specs.Trace.{Kept, replay, noted_if_taken}
use Rattle.scan_table.specs.declared.part.PartId.{PartId}
use Rattle.scan_table.specs.declared.part.Role.{Role}
use Rattle.scan_table.specs.declared.part.Role.TheVariants.{Main, Log}
use Rattle.scan_table.specs.Slots.{is_main}
use Rattle.scan_table.specs.Table.{is_at}

-- a part and its trace
pub record PartState : Type 0 where
  pub id : PartId
  pub trace : Kept

abbrev pub is_role : Role → Role → Bool
is_role Main role = is_main role
is_role Log role = not (is_main role)

-- whether two names are those of one part
abbrev pub is_part : PartId → PartId → Bool
is_part a b = a.slot == b.slot && (is_role a.role b.role && b.life == a.life)

-- the trace of a part, if the part is there
abbrev pub trace_of : List PartState → PartId → Option Kept
trace_of [] id = None
trace_of (part ∷ parts) id = if is_part part.id id then Some part.trace else trace_of parts id

-- A part has ended if its machine is gone.
abbrev pub has_ended : Kept → Bool
has_ended kept = is_gone (replay kept).phase

-- a part after an event at the part with that name
abbrev pub part_after : PartId → Event → PartState → PartState
part_after id event part =
    if is_part part.id id then record { id = part.id; trace = noted_if_taken part.trace event } else part

-- The parts after an event at one of them. The others do not change.
abbrev pub parts_after : PartId → Event → List PartState → List PartState
parts_after id event parts = map (part_after id event) parts

-- whether two parts, in any lives, have the same slot and role
abbrev pub is_place : PartId → PartId → Bool
is_place a b = is_at a b.slot b.role

-- a part, or the new part that restarts in its place
abbrev pub restarted_in : List PartState → PartState → PartState
restarted_in [] part = part
restarted_in (new ∷ news) part = restarted_in news (if is_place new.id part.id then new else part)

-- whether a part belongs to one of these slots
abbrev pub is_of : List ℕ → PartState → Bool
is_of slots part = list_any (λ slot. part.id.slot == slot) slots
