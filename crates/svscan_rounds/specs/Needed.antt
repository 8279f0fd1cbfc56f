-- The names whose rows a scan needs.
use Rattle.std.specs.Prelude.{ℕ, ◌&&◌, Bool, not, List}
use Rattle.std.specs.List.{filter}
use Rattle.scan_table.specs.Slots.{Row, SlotState, is_service_name}
use Rattle.scan_table.specs.Table.{TableState}
use Rattle.scan_table.specs.Whole.{IsSameScan, is_whole}

-- whether a scan needs the row of a name: a service may have the name, and no service whose parts all run has it
abbrev pub is_needed : List SlotState → (name : List ℕ) → Bool
is_needed slots name = is_service_name name && not (is_whole slots name)

-- the names whose rows a scan needs
abbrev pub needed : List SlotState → (names : List (List ℕ)) → List (List ℕ)
needed slots names = filter (is_needed slots) names

-- the rows that a scan needs
abbrev pub needed_rows : List SlotState → List Row → List Row
needed_rows slots rows = filter (λ (row : Row). is_needed slots row.name) rows

-- A scan of only the rows that it needs does what a scan of all rows does.
abbrev pub NeedsNoOtherRow : TableState → Type 0
NeedsNoOtherRow table = (rows : List Row) → IsSameScan table (needed_rows table.slots rows) rows
