-- Why a table refuses a scan, apart from a lack of memory, as a function: the first place at which the names do not
-- rise, and then whether there are enough numbers. Also the row with a name.
use Rattle.std.specs.Prelude.{◌≡◌, ◌≢◌, ℕ, ◌+◌, ◌<◌, if◌then◌else◌, List, [], ◌∷◌, length, Option, Some, None, Result}
use Rattle.std.specs.Prelude.{Ok, Err, slice_index_or}
use Rattle.std.specs.List.{All}
use Rattle.std.specs.declared.cmp.Ordering.{Ordering}
use Rattle.std.specs.declared.cmp.Ordering.TheVariants.{Less, Equal, Greater}
use Rattle.scan_table.specs.declared.fault.ScanFault.{ScanFault}
use Rattle.scan_table.specs.declared.fault.ScanFault.TheVariants as fault
use Rattle.scan_table.specs.Slots.{Row, name_order, is_name}
use Rattle.scan_table.specs.Scan.{is_exhausted}
use Rattle.scan_table.specs.Table.{TableState}

-- the fault of a name at a place, by how the name before it compares with it; if they rise, the fault of later names
abbrev pub fault_at : ℕ → Ordering → Option ScanFault → Option ScanFault
fault_at place Less later = later
fault_at place Equal later = Some (fault.Twice place)
fault_at place Greater later = Some (fault.Unsorted place)

-- the first fault of the rows from a place on, after this name
abbrev pub order_fault_after : ℕ → List ℕ → List Row → Option ScanFault
order_fault_after place name [] = None
order_fault_after place name (row ∷ rows) =
    fault_at place (name_order name row.name) (order_fault_after (place + 1) row.name rows)

abbrev pub order_fault : List Row → Option ScanFault
order_fault [] = None
order_fault (row ∷ rows) = order_fault_after 1 row.name rows

abbrev pub numbers_fault : TableState → List Row → Option ScanFault → Option ScanFault
numbers_fault table rows (Some why) = Some why
numbers_fault table rows None = if is_exhausted table.slots table.next rows then Some fault.Exhausted else None

abbrev pub scan_refusal : TableState → List Row → Option ScanFault
scan_refusal table rows = numbers_fault table rows (order_fault rows)

-- the fault in a result
abbrev pub fault_of : {T : Type 0} → Result T ScanFault → Option ScanFault
fault_of (Ok value) = None
fault_of (Err why) = Some why

-- the first of these rows with the name
abbrev pub row_of : List Row → List ℕ → Option Row
row_of [] name = None
row_of (row ∷ rows) name = if is_name row.name name then Some row else row_of rows name

-- A row with this name is at this place.
pub record IsRowAt (rows : List Row) (name : List ℕ) (place : ℕ) : Type 0 where
  pub within : place < length rows
  pub here : (d : Row) → name_order (slice_index_or rows place d).name name ≡ Equal

-- No row has this name.
abbrev pub HasNoRow : List Row → List ℕ → Type 0
HasNoRow rows name = All (λ (row : Row). row.name ≢ name) rows
