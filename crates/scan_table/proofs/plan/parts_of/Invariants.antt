use Rattle.std.proofs.Common.{◌≡◌, ◌++◌, drop}
use Rattle.std.specs.List.{flat_map}
use Rattle.scan_table.specs.Slots.{ids_of}
use Rattle.scan_table.proofs.plan.parts_of.Given as goal

-- the parts so far, and those that are left
abbrev pub invariant-loop-slot : goal.invariant-loop-slot
invariant-loop-slot g l = l.parts.items ++ flat_map ids_of (drop l.slot-index l.slots) ≡ flat_map ids_of l.slots
