use Rattle.std.proofs.Common.{◌≡◌, ◌≤◌, ◌-◌, take, length}
use Rattle.tai_status.specs.Stamping.{StampsPart, begun, is_inside}
use Rattle.tai_status.proofs.stamp.stamp_parts.Given as goal

abbrev pub invariant-loop-at : goal.invariant-loop-at
invariant-loop-at g l =
    StampsPart l.fn.inside (take l.at l.bytes) (g.C.TimeSource.readings l.fn.clock) (g.C.TimeSource.readings l.clock)
    l.fn.writer.bytes l.writer.bytes l.fn.block l.block
    × (l.inside ≡ is_inside l.fn.inside (take l.at l.bytes)) × (l.count ≡ begun l.fn.inside (take l.at l.bytes))
    × (l.at ≤ length l.bytes) × (l.count ≤ l.at) × (l.writer.faults ≡ l.fn.writer.faults)

abbrev pub decreases-loop-at : goal.decreases-loop-at
decreases-loop-at g l = length l.bytes - l.at
