-- Why a scan is refused: never out of memory.
use Rattle.std.proofs.Common.{◌≡◌, ℕ, ◌+◌, Bool, true, false, List, [], ◌∷◌, Option, Some, None, if◌then◌else◌}
use Rattle.scan_table.specs.declared.fault.ScanFault.{ScanFault}
use Rattle.scan_table.specs.declared.fault.ScanFault.TheVariants as fault
use Rattle.std.specs.declared.cmp.Ordering.TheVariants.{Less, Equal, Greater}
use Rattle.scan_table.specs.Slots.{Row, name_order}
use Rattle.scan_table.specs.Scan.{is_exhausted}
use Rattle.scan_table.specs.Table.{TableState}
use Rattle.scan_table.specs.Order.{fault_at, order_fault_after, order_fault, numbers_fault, scan_refusal}
use Rattle.svc_host.specs.Rounds.{IsCause}

at_place : (place : ℕ) (order : _) (later : Option ScanFault) → (later ≡ Some fault.OutOfMemory → ⊥)
    → fault_at place order later ≡ Some fault.OutOfMemory → ⊥
at_place place Less later none is = none is
at_place place Equal later none is = absurd (cc is)
at_place place Greater later none is = absurd (cc is)

no_memory_after : (place : ℕ) (name : List ℕ) (rows : List Row) → order_fault_after place name rows
    ≡ Some fault.OutOfMemory → ⊥
no_memory_after place name [] is = absurd (cc is)
no_memory_after place name (row ∷ rows) is =
    at_place place (name_order name row.name) (order_fault_after (place + 1) row.name rows)
    (no_memory_after (place + 1) row.name rows) is

no_memory_order : (rows : List Row) → order_fault rows ≡ Some fault.OutOfMemory → ⊥
no_memory_order [] is = absurd (cc is)
no_memory_order (row ∷ rows) is = no_memory_after 1 row.name rows is

no_memory_where : (exhausted : Bool) → (if exhausted then Some fault.Exhausted else None) ≡ Some fault.OutOfMemory → ⊥
no_memory_where true is = absurd (cc is)
no_memory_where false is = absurd (cc is)

no_memory_numbers : (table : TableState) (rows : List Row) (first : Option ScanFault)
    → (first ≡ Some fault.OutOfMemory → ⊥)
    → numbers_fault table rows first ≡ Some fault.OutOfMemory → ⊥
no_memory_numbers table rows (Some why) none is = none is
no_memory_numbers table rows None none is = no_memory_where (is_exhausted table.slots table.next rows) is

no_memory : (table : TableState) (rows : List Row) → scan_refusal table rows ≡ Some fault.OutOfMemory → ⊥
no_memory table rows = no_memory_numbers table rows (order_fault rows) (no_memory_order rows)

pub cause : (table : TableState) (rows : List Row) (why : ScanFault) → scan_refusal table rows ≡ Some why
    → IsCause table rows why
cause table rows (fault.Unsorted place) is = is
cause table rows (fault.Twice place) is = is
cause table rows fault.Exhausted is = is
cause table rows fault.OutOfMemory is = absurd (no_memory table rows is)
