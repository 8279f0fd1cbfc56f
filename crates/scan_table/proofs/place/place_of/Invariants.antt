use Rattle.std.proofs.Common.{ℕ, ◌<◌, ◌≤◌, ◌-◌, length, get_or}
use Rattle.scan_table.specs.Slots.{SlotState}
use Rattle.scan_table.proofs.place.place_of.Given as goal

-- the numbers before `low` are smaller, and those from `high` on are greater
abbrev pub invariant-loop-low : goal.invariant-loop-low
invariant-loop-low g l = record {
  order : l.low ≤ l.high;
  bound : l.high ≤ length l.slots;
  below : (k : ℕ) (d : SlotState) → k < l.low → (get_or l.slots k d).number < l.number;
  above : (k : ℕ) (d : SlotState) → l.high ≤ k → k < length l.slots → l.number < (get_or l.slots k d).number;
}

abbrev pub decreases-loop-low : goal.decreases-loop-low
decreases-loop-low g l = l.high - l.low
