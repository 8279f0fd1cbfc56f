use Rattle.std.proofs.Common.{◌≡◌, ℕ, ◌<◌, ◌≤◌, ◌-◌, length, get_or}
use Rattle.std.specs.declared.cmp.Ordering.TheVariants.{Less, Greater}
use Rattle.scan_table.specs.Slots.{Row, name_order}
use Rattle.scan_table.proofs.row.place_of_row.Given as goal

-- the names before `low` are smaller, and those from `high` on are greater
abbrev pub invariant-loop-low : goal.invariant-loop-low
invariant-loop-low g l = record {
  order : l.low ≤ l.high;
  bound : l.high ≤ length l.rows;
  below : (k : ℕ) (d : Row) → k < l.low → name_order (get_or l.rows k d).name l.name ≡ Less;
  above : (k : ℕ) (d : Row) → l.high ≤ k → k < length l.rows → name_order (get_or l.rows k d).name l.name ≡ Greater;
}

abbrev pub decreases-loop-low : goal.decreases-loop-low
decreases-loop-low g l = l.high - l.low
