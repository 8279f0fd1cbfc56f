use Rattle.std.proofs.Common.{◌≡◌, ℕ, ◌<◌, get_or, take, drop, length, nat_lt, ◌≤◌}
use Rattle.std.specs.List.{sum_by}
use Rattle.scan_table.specs.Slots.{Row, eligible}
use Rattle.scan_table.specs.Index.{names_of, ArePassed}
use Rattle.scan_table.specs.Scan.{need, new_rows, is_exhausted}
use Rattle.scan_table.proofs.plan.is_exhausted.Given as goal

-- the new names so far are counted; the rest needs too many numbers exactly if all rows do
abbrev pub invariant-loop-row : goal.invariant-loop-row
invariant-loop-row g l = record {
  at : l.at ≤ length l.index;
  passed : (j : ℕ) (d : Row) → l.row-index ≤ j → j < length l.rows
      → ArePassed (names_of l.slots) l.index l.at (get_or l.rows j d).name;
  made : l.made ≡ length (new_rows l.slots (take l.row-index l.rows));
  bound : l.made ≤ l.row-index;
  left : nat_lt l.left (sum_by (need l.slots l.rows) (eligible (drop l.row-index l.rows)))
      ≡ is_exhausted l.slots l.next l.rows;
}
