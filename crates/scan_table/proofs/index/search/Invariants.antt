use Rattle.std.proofs.Common.{◌≡◌, ℕ, ◌<◌, ◌≤◌, ◌-◌, length}
use Rattle.std.specs.declared.cmp.Ordering.TheVariants.{Less, Greater}
use Rattle.scan_table.specs.Slots.{name_order}
use Rattle.scan_table.specs.Index.{names_of, name_at}
use Rattle.scan_table.proofs.index.search.Given as goal

-- the names before `low` are smaller, and those from `high` on are greater
abbrev pub invariant-loop-low : goal.invariant-loop-low
invariant-loop-low g l = record {
  order : l.low ≤ l.high;
  bound : l.high ≤ length l.index;
  below : (k : ℕ) → k < l.low → name_order (name_at (names_of l.slots) l.index k) l.name ≡ Less;
  above : (k : ℕ) → l.high ≤ k → k < length l.index → name_order (name_at (names_of l.slots) l.index k) l.name
      ≡ Greater;
}

abbrev pub decreases-loop-low : goal.decreases-loop-low
decreases-loop-low g l = l.high - l.low
