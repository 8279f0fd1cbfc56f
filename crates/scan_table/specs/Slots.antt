-- What a scan finds, and the slots in which it keeps services, as in svscan (cr.yp.to/daemontools/svscan.html). A name
-- is its bytes.
use Rattle.std.specs.Prelude.{ℕ, ◌==◌, ◌&&◌, Bool, true, false, not, List, [], ◌∷◌, map, length, nat_le}
use Rattle.std.specs.Prelude.{if◌then◌else◌, Option, Some, None}
use Rattle.std.specs.List.{filter, list_all}
use Rattle.std.specs.Str.{bytes_eq}
use Rattle.std.specs.Ordering.{nat_cmp}
use Rattle.std.specs.declared.cmp.Ordering.{Ordering}
use Rattle.std.specs.Cmp.Lexicographic.{slice_cmp}
use Rattle.scan_table.specs.declared.part.Role.{Role}
use Rattle.scan_table.specs.declared.part.Role.TheVariants.{Main, Log}
use Rattle.scan_table.specs.declared.part.PartId.{PartId}
use Rattle.scan_table.specs.declared.slot.Life.{Life}

-- the byte order of names
abbrev pub name_order : List ℕ → List ℕ → Ordering
name_order a b = slice_cmp nat_cmp a b

-- whether two names are the same
abbrev pub is_name : List ℕ → List ℕ → Bool
is_name a b = bytes_eq a b

-- an entry of the folder that is scanned
pub record Row : Type 0 where
  pub name : List ℕ
  pub is_dir : Bool
  pub has_log : Bool
  pub down : Bool
  pub log_down : Bool

-- whether the row has the `down` file of the part with this role
abbrev pub is_down : Role → Row → Bool
is_down Main row = row.down
is_down Log row = row.log_down

-- A service's name is not empty and does not begin with a dot.
abbrev pub is_service_name : List ℕ → Bool
is_service_name [] = false
is_service_name (byte ∷ bytes) = not (byte == 46)

-- A row is eligible if it is a directory with a service's name.
abbrev pub is_eligible : Row → Bool
is_eligible row = row.is_dir && is_service_name row.name

abbrev pub eligible : List Row → List Row
eligible rows = filter is_eligible rows

-- A service is a pair, s and s/log, if it has a log and a name of at most 255 bytes.
abbrev pub is_pair : Row → Bool
is_pair row = row.has_log && nat_le (length row.name) 255

-- the parts of a row's service
abbrev pub roles_of : Row → List Role
roles_of row = if is_pair row then Main ∷ Log ∷ [] else Main ∷ []

abbrev pub is_main : Role → Bool
is_main Main = true
is_main Log = false

-- a slot: the current life of its main part, and of its log if it is a pair
pub record SlotState : Type 0 where
  pub number : ℕ
  pub name : List ℕ
  pub main : Life
  pub log : Option Life

-- a slot's part, with its role
pub record SlotPart : Type 0 where
  pub role : Role
  pub life : Life

abbrev pub log_parts : Option Life → List SlotPart
log_parts None = []
log_parts (Some life) = record { role = Log; life = life } ∷ []

-- the parts of a slot: Main, then Log of a pair
abbrev pub parts_of : SlotState → List SlotPart
parts_of slot = record { role = Main; life = slot.main } ∷ log_parts slot.log

-- the parts of a slot, by slot, role and life
abbrev pub ids_of : SlotState → List PartId
ids_of slot =
    map (λ (part : SlotPart). record { slot = slot.number; role = part.role; life = part.life.number }) (parts_of slot)

abbrev pub all_ended : SlotState → Bool
all_ended slot = list_all (λ part. part.life.has_ended) (parts_of slot)

-- the parts of a slot that have ended
abbrev pub ended_roles : SlotState → List Role
ended_roles slot =
    map (λ (part : SlotPart). part.role) (filter (λ (part : SlotPart). part.life.has_ended) (parts_of slot))
