use Rattle.std.proofs.Common.{◌≡◌, take}
use Rattle.scan_table.proofs.slot.copy_slots.Given as goal

-- the slots so far are copied
abbrev pub invariant-loop-slot : goal.invariant-loop-slot
invariant-loop-slot g l = l.copies.items ≡ take l.slot-index l.slots
