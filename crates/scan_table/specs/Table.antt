-- A table of slots, and what scans and ended parts do to it.
use Rattle.std.specs.Prelude.{ℕ, ◌+◌, ◌<◌, ◌≤◌, ◌==◌, ◌&&◌, ◌||◌, Bool, false, not, List, [], ◌∷◌, ◌++◌, map}
use Rattle.std.specs.Prelude.{if◌then◌else◌, Option, Some, None, is_some}
use Rattle.std.specs.List.{list_any, All}
use Rattle.std.specs.Option.{option_map}
use Rattle.scan_table.specs.declared.part.Role.{Role}
use Rattle.scan_table.specs.declared.part.Role.TheVariants.{Main, Log}
use Rattle.scan_table.specs.declared.part.PartId.{PartId}
use Rattle.scan_table.specs.declared.slot.Life.{Life}
use Rattle.scan_table.specs.Slots.{Row, is_main, SlotState, SlotPart, parts_of}
use Rattle.scan_table.specs.Scan.{kept, needs, restarts, new_slots}

-- the slots, and the counter, which is the number that is given next
pub record TableState : Type 0 where
  pub slots : List SlotState
  pub next : ℕ

-- a table without slots
abbrev pub new_table : ℕ → TableState
new_table next = record { slots = []; next = next }

-- whether a part has this slot number and this role
abbrev pub is_at : PartId → ℕ → Role → Bool
is_at part number Main = is_main part.role && part.slot == number
is_at part number Log = not (is_main part.role) && part.slot == number

-- a part's life after these parts restarted: the new one, if the part is among them
abbrev pub restarted : List PartId → ℕ → Role → Life → Life
restarted [] number role life = life
restarted (part ∷ parts) number role life =
    restarted parts number role
    (if is_at part number role then record { number = part.life; has_ended = false } else life)

-- a slot after these parts restarted
abbrev pub renewed : List PartId → SlotState → SlotState
renewed parts slot =
    record {
      number = slot.number;
      name = slot.name;
      main = restarted parts slot.number Main slot.main;
      log = option_map (restarted parts slot.number Log) slot.log;
    }

-- A scan keeps slots in their places, gives each part that restarts its new life, and adds the new slots at the end.
abbrev pub scanned : TableState → List Row → TableState
scanned table rows =
    record {
      slots = map (renewed (restarts table.slots table.next rows)) (kept table.slots rows)
          ++ new_slots table.slots table.next rows;
      next = table.next + needs table.slots rows;
    }

-- whether a part is this life of a slot's part
abbrev pub is_life : PartId → Role → Life → Bool
is_life part Main life = is_main part.role && part.life == life.number
is_life part Log life = not (is_main part.role) && part.life == life.number

-- a life after the end of a part
abbrev pub life_ended : PartId → Role → Life → Life
life_ended part role life = record { number = life.number; has_ended = life.has_ended || is_life part role life }

-- a slot after the end of a part
abbrev pub slot_ended : PartId → SlotState → SlotState
slot_ended part slot =
    if slot.number == part.slot then
    record {
      number = slot.number;
      name = slot.name;
      main = life_ended part Main slot.main;
      log = option_map (life_ended part Log) slot.log;
    }
    else slot

-- A table after the end of a part: only that part's flag changes.
abbrev pub after_end : TableState → PartId → TableState
after_end table part = record { slots = map (slot_ended part) table.slots; next = table.next }

-- whether a slot has this part, and it has not ended
abbrev pub has_running : PartId → SlotState → Bool
has_running part slot =
    slot.number == part.slot
    && list_any (λ (own : SlotPart). is_life part own.role own.life && not own.life.has_ended) (parts_of slot)

-- whether a table has this part, and it has not ended
abbrev pub is_running : TableState → PartId → Bool
is_running table part = list_any (has_running part) table.slots

-- the slot with a number
abbrev pub slot_at : List SlotState → ℕ → Option SlotState
slot_at [] number = None
slot_at (slot ∷ slots) number = if slot.number == number then Some slot else slot_at slots number

-- whether there is a slot, and it is that of a pair
abbrev pub has_log : Option SlotState → Bool
has_log None = false
has_log (Some slot) = is_some slot.log

abbrev pub name_of : SlotState → List ℕ
name_of slot = slot.name

-- a life that was given between two counters
abbrev pub between : ℕ → ℕ → PartId → Type 0
between from to part = (from ≤ part.life) × (part.life < to)

-- These lives were given between two values of the counter: no scan before or after gives them.
abbrev pub AreFresh : ℕ → ℕ → List PartId → Type 0
AreFresh from to parts = All (between from to) parts
