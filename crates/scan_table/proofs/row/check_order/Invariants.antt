use Rattle.std.proofs.Common.{◌≡◌, ◌<◌, ◌-◌, length, drop, get_or}
use Rattle.std.specs.List.{AllAdjacentBelow}
use Rattle.scan_table.specs.Slots.{Row}
use Rattle.scan_table.specs.Scan.{IsBelow}
use Rattle.scan_table.specs.Order.{order_fault, order_fault_after}
use Rattle.scan_table.proofs.row.check_order.Given as goal

-- the rows before the place rise, and the first fault is that of the rows from there on
abbrev pub invariant-loop-place : goal.invariant-loop-place
invariant-loop-place g l = record {
  above : 0 < l.place;
  rising : AllAdjacentBelow IsBelow l.rows l.place;
  left : (d : Row) → 0 < length l.rows
      → order_fault l.rows ≡ order_fault_after l.place (get_or l.rows (l.place - 1) d).name (drop l.place l.rows);
}
