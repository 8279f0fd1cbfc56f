use Rattle.std.proofs.Common.{◌≡◌, ◌≤◌, ◌-◌, take, length}
use Rattle.tai_status.specs.Block.{Emits}
use Rattle.tai_status.proofs.block.Block.put.Given as goal

abbrev pub invariant-loop-at : goal.invariant-loop-at
invariant-loop-at g l =
    Emits l.fn.writer.bytes l.writer.bytes l.fn.self l.self (take l.at l.piece)
    × (l.at ≤ length l.piece) × (l.writer.faults ≡ l.fn.writer.faults)

abbrev pub decreases-loop-at : goal.decreases-loop-at
decreases-loop-at g l = length l.piece - l.at
