-- What a scan starts, restarts, drops and refuses, as svscan does (cr.yp.to/daemontools/svscan.html). Each directory
-- without a service gets one, up to 1000. A part that has ended restarts if its directory is there. A service goes when
-- its directory is gone and its parts have ended. Slots and lives are numbered from one counter.
use Rattle.std.specs.Prelude.{◌≡◌, ℕ, ◌+◌, ◌-◌, ◌^◌, ◌<◌, ◌&&◌, Bool, true, false, not, List, [], ◌∷◌, ◌++◌, map}
use Rattle.std.specs.Prelude.{length, drop, nat_lt, if◌then◌else◌, Option, Some, None, is_none, slice_index_or}
use Rattle.std.specs.List.{filter, list_any, sum_by, flat_map, AllAdjacentBelow}
use Rattle.std.specs.declared.cmp.Ordering.{Ordering}
use Rattle.std.specs.declared.cmp.Ordering.TheVariants.{Less, Equal, Greater}
use Rattle.scan_table.specs.declared.part.Role.{Role}
use Rattle.scan_table.specs.declared.part.PartId.{PartId}
use Rattle.scan_table.specs.declared.fault.ScanFault.{ScanFault}
use Rattle.scan_table.specs.declared.fault.ScanFault.TheVariants as fault
use Rattle.scan_table.specs.Slots.{name_order, is_name, Row, eligible, is_pair, roles_of, SlotState, all_ended}
use Rattle.scan_table.specs.Slots.{ended_roles, ids_of}

abbrev pub IsBelow : Row → Row → Type 0
IsBelow a b = name_order a.name b.name ≡ Less

-- Each name is greater than the one before.
abbrev pub AreRising : List Row → Type 0
AreRising rows = AllAdjacentBelow IsBelow rows (length rows)

-- The rows before a place rise, and the name before it compares in this way with the name there.
pub record IsFirstAt (rows : List Row) (place : ℕ) (order : Ordering) : Type 0 where
  pub after : 0 < place
  pub within : place < length rows
  pub before : AllAdjacentBelow IsBelow rows place
  pub here : (d : Row) → name_order (slice_index_or rows (place - 1) d).name (slice_index_or rows place d).name ≡ order

-- A fault of the order is the first one from the beginning.
abbrev pub IsOrderFault : List Row → ScanFault → Type 0
IsOrderFault rows (fault.Unsorted place) = IsFirstAt rows place Greater
IsOrderFault rows (fault.Twice place) = IsFirstAt rows place Equal
IsOrderFault rows fault.Exhausted = ⊥
IsOrderFault rows fault.OutOfMemory = ⊥

-- whether a slot has an eligible row
abbrev pub has_row : List Row → SlotState → Bool
has_row rows slot = list_any (λ (row : Row). is_name row.name slot.name) (eligible rows)

-- The dropped slots are those without an eligible row that have only ended parts.
abbrev pub is_dropped : List Row → SlotState → Bool
is_dropped rows slot = not (has_row rows slot) && all_ended slot

abbrev pub drops : List SlotState → List Row → List ℕ
drops slots rows = map (λ (slot : SlotState). slot.number) (filter (is_dropped rows) slots)

-- the other slots
abbrev pub kept : List SlotState → List Row → List SlotState
kept slots rows = filter (λ slot. not (is_dropped rows slot)) slots

-- the slot with a row's name
abbrev pub slot_of : List SlotState → Row → Option SlotState
slot_of [] row = None
slot_of (slot ∷ slots) row = if is_name row.name slot.name then Some slot else slot_of slots row

-- A row without a slot has a new name.
abbrev pub is_new : List SlotState → Row → Bool
is_new slots row = is_none (slot_of slots row)

abbrev pub new_rows : List SlotState → List Row → List Row
new_rows slots rows = filter (is_new slots) (eligible rows)

-- how many more slots there may be
abbrev pub room : List SlotState → List Row → ℕ
room slots rows = 1000 - length (kept slots rows)

-- The first of the new names get slots, and the others are refused.
abbrev pub refused_rows : List SlotState → List Row → List Row
refused_rows slots rows = drop (room slots rows) (new_rows slots rows)

abbrev pub refused : List SlotState → List Row → List (List ℕ)
refused slots rows = map (λ (row : Row). row.name) (refused_rows slots rows)

abbrev pub is_refused : List SlotState → List Row → Row → Bool
is_refused slots rows row = list_any (λ other. is_name row.name other.name) (refused_rows slots rows)

-- how many numbers a row needs: one for each ended part of its slot; or one for a new slot, and one for each of its
-- parts
abbrev pub need_where : Bool → Row → Option SlotState → ℕ
need_where is_refused row (Some slot) = length (ended_roles slot)
need_where is_refused row None = if is_refused then 0 else (1 + length (roles_of row))

abbrev pub need : List SlotState → List Row → Row → ℕ
need slots rows row = need_where (is_refused slots rows row) row (slot_of slots row)

abbrev pub needs : List SlotState → List Row → ℕ
needs slots rows = sum_by (need slots rows) (eligible rows)

-- More numbers are needed than are left.
abbrev pub is_exhausted : List SlotState → ℕ → List Row → Bool
is_exhausted slots next rows = nat_lt (2 ^ 64 - 1 - next) (needs slots rows)

-- lives from n on, one for each role
abbrev pub lives_from : ℕ → ℕ → List Role → List PartId
lives_from n slot [] = []
lives_from n slot (role ∷ roles) = record { slot = slot; role = role; life = n } ∷ lives_from (n + 1) slot roles

-- what a row with n as its first number gets: new lives of the parts that restart
abbrev pub restarts_where : ℕ → Option SlotState → List PartId
restarts_where n None = []
restarts_where n (Some slot) = lives_from n slot.number (ended_roles slot)

abbrev pub restarts_at : List SlotState → List Row → ℕ → Row → List PartId
restarts_at slots rows n row = restarts_where n (slot_of slots row)

-- a new slot with the number n: its parts run in the lives with the next numbers
abbrev pub new_slot : ℕ → Row → SlotState
new_slot n row =
    record {
      number = n;
      name = row.name;
      main = record { number = n + 1; has_ended = false };
      log = if is_pair row then Some (record { number = n + 2; has_ended = false }) else None;
    }

-- or a new slot
abbrev pub new_slots_where : Bool → ℕ → Row → Option SlotState → List SlotState
new_slots_where is_refused n row (Some slot) = []
new_slots_where is_refused n row None = if is_refused then [] else new_slot n row ∷ []

-- the same for a new name
abbrev pub new_slot_where : Bool → ℕ → Row → List SlotState
new_slot_where is_refused n row = new_slots_where is_refused n row None

abbrev pub new_slots_at : List SlotState → List Row → ℕ → Row → List SlotState
new_slots_at slots rows n row = new_slots_where (is_refused slots rows row) n row (slot_of slots row)

-- what each row gets, if the numbers of each row come after those of the rows before it
abbrev pub in_turn : {T : Type 0} → (Row → ℕ) → (ℕ → Row → List T) → ℕ → List Row → List T
in_turn need gift n [] = []
in_turn need gift n (row ∷ rest) = gift n row ++ in_turn need gift (n + need row) rest

abbrev pub new_slots : List SlotState → ℕ → List Row → List SlotState
new_slots slots next rows = in_turn (need slots rows) (new_slots_at slots rows) next (eligible rows)

-- The starts are the parts of the new slots.
abbrev pub starts : List SlotState → ℕ → List Row → List PartId
starts slots next rows = flat_map ids_of (new_slots slots next rows)

abbrev pub restarts : List SlotState → ℕ → List Row → List PartId
restarts slots next rows = in_turn (need slots rows) (restarts_at slots rows) next (eligible rows)

-- Why a scan is refused. The order of the rows comes first, then the numbers. Memory is the reason only if nothing else
-- is wrong.
abbrev pub IsCause : List SlotState → ℕ → List Row → ScanFault → Type 0
IsCause slots next rows (fault.Unsorted place) = IsFirstAt rows place Greater
IsCause slots next rows (fault.Twice place) = IsFirstAt rows place Equal
IsCause slots next rows fault.Exhausted = AreRising rows × (is_exhausted slots next rows ≡ true)
IsCause slots next rows fault.OutOfMemory = AreRising rows × (is_exhausted slots next rows ≡ false)
