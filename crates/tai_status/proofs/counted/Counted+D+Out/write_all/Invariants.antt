use Rattle.std.proofs.Common.{◌≡◌, ◌≤◌, ◌-◌, take, length}
use Rattle.tai_status.specs.Counted.{Works, Wrote}
use Rattle.tai_status.proofs.counted.Counted+D+Out.write_all.Given as goal

abbrev pub invariant-loop-at : goal.invariant-loop-at
invariant-loop-at g l =
    Wrote l.fn.self l.self (take l.at l.piece)
    × (l.at ≤ length l.piece) × (l.self.reads ≡ l.fn.self.reads) × Works l.fn.self l.self

abbrev pub decreases-loop-at : goal.decreases-loop-at
decreases-loop-at g l = length l.piece - l.at
