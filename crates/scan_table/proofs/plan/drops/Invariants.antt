use Rattle.std.proofs.Common.{◌≡◌, ◌++◌, drop}
use Rattle.scan_table.specs.Scan.{drops}
use Rattle.scan_table.proofs.plan.drops.Given as goal

-- the dropped ones so far, and those that are left
abbrev pub invariant-loop-slot : goal.invariant-loop-slot
invariant-loop-slot g l = l.numbers.items ++ drops (drop l.slot-index l.slots) l.rows ≡ drops l.slots l.rows
