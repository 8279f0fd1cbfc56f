use Rattle.std.proofs.Common.{◌≡◌, ◌+◌, ◌≤◌, drop, length}
use Rattle.scan_table.specs.Scan.{kept}
use Rattle.scan_table.proofs.plan.kept_count.Given as goal

-- the kept ones so far, and those that are left
abbrev pub invariant-loop-slot : goal.invariant-loop-slot
invariant-loop-slot g l = record {
  count : l.count + length (kept (drop l.slot-index l.slots) l.rows) ≡ length (kept l.slots l.rows);
  bound : l.count ≤ l.slot-index;
}
