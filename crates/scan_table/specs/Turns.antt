-- How many numbers a row needs, if it is known whether a new name is refused there.
use Rattle.std.specs.Prelude.{ℕ, ◌&&◌, Bool, List, [], ◌∷◌, if◌then◌else◌}
use Rattle.scan_table.specs.declared.part.PartId.{PartId}
use Rattle.scan_table.specs.Slots.{Row, is_eligible, SlotState}
use Rattle.scan_table.specs.Scan.{slot_of, is_new, need_where, restarts_where, new_slots_where}

abbrev pub turn_need : List SlotState → Bool → Row → ℕ
turn_need slots is_refused row = if is_eligible row then need_where is_refused row (slot_of slots row) else 0

-- whether a row has a new name
abbrev pub is_counted : List SlotState → Row → Bool
is_counted slots row = is_eligible row && is_new slots row

-- the slots that a row adds
abbrev pub row_slots : List SlotState → Bool → ℕ → Row → List SlotState
row_slots slots is_refused n row = if is_eligible row then new_slots_where is_refused n row (slot_of slots row) else []

abbrev pub turn_restarts : List SlotState → ℕ → Row → List PartId
turn_restarts slots n row = if is_eligible row then restarts_where n (slot_of slots row) else []

-- a row's name, if it is refused
abbrev pub turn_refused : List SlotState → Bool → Row → List (List ℕ)
turn_refused slots is_refused row = if is_counted slots row && is_refused then row.name ∷ [] else []
