use Rattle.std.proofs.Common.{ℕ, ◌<◌, ◌≤◌, ◌-◌, length, get_or}
use Rattle.suite_core.specs.Parts.{PartState}
use Rattle.suite_core.specs.Places.{rank}
use Rattle.suite_core.proofs.place.edge.Given as goal

-- the parts before `low` come before, and those from `high` on do not
abbrev pub invariant-loop-low : goal.invariant-loop-low
invariant-loop-low g l = record {
  order : l.low ≤ l.high;
  bound : l.high ≤ length l.parts;
  before : (k : ℕ) (d : PartState) → k < l.low → rank (get_or l.parts k d).id < rank l.id;
  after : (k : ℕ) (d : PartState) → l.high ≤ k → k < length l.parts → rank l.id ≤ rank (get_or l.parts k d).id;
}

abbrev pub decreases-loop-low : goal.decreases-loop-low
decreases-loop-low g l = l.high - l.low
