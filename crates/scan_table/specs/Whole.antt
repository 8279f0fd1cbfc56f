-- Services with no ended part. A scan does not change them, whatever their rows say.
use Rattle.std.specs.Prelude.{◌≡◌, ℕ, Bool, false, not, List, [], ◌∷◌, if◌then◌else◌, Option, Some, None}
use Rattle.std.specs.List.{filter, list_all}
use Rattle.scan_table.specs.Slots.{Row, is_name, SlotState, SlotPart, parts_of}
use Rattle.scan_table.specs.Scan.{starts, restarts, drops, refused}
use Rattle.scan_table.specs.Table.{TableState, scanned}

-- whether no part of a slot has ended
abbrev pub none_ended : SlotState → Bool
none_ended slot = list_all (λ (part : SlotPart). not part.life.has_ended) (parts_of slot)

-- the slot with a name
abbrev pub slot_named : List SlotState → List ℕ → Option SlotState
slot_named [] name = None
slot_named (slot ∷ slots) name = if is_name name slot.name then Some slot else slot_named slots name

abbrev pub is_whole_slot : Option SlotState → Bool
is_whole_slot None = false
is_whole_slot (Some slot) = none_ended slot

-- whether there is a service with this name, and no part of it has ended
abbrev pub is_whole : List SlotState → List ℕ → Bool
is_whole slots name = is_whole_slot (slot_named slots name)

-- the rows with all other names
abbrev pub other_rows : List SlotState → List Row → List Row
other_rows slots rows = filter (λ (row : Row). not (is_whole slots row.name)) rows

-- A scan of these rows does the same as a scan of those.
pub record IsSameScan (table : TableState) (rows others : List Row) : Type 0 where
  pub same_starts : starts table.slots table.next rows ≡ starts table.slots table.next others
  pub same_restarts : restarts table.slots table.next rows ≡ restarts table.slots table.next others
  pub same_drops : drops table.slots rows ≡ drops table.slots others
  pub same_refused : refused table.slots rows ≡ refused table.slots others
  pub same_table : scanned table rows ≡ scanned table others

-- In a scan, the rows of services with no ended part make no difference.
abbrev pub WholeNeedNoRow : TableState → Type 0
WholeNeedNoRow table = (rows : List Row) → IsSameScan table (other_rows table.slots rows) rows
