use Rattle.std.proofs.Common.{◌≡◌, ◌≤◌, ◌-◌, ◌*◌, ◌^◌, []}
use Rattle.tai_status.specs.Lines.{stamp_state}
use Rattle.tai_status.specs.Stamping.{SoFar}
use Rattle.tai_status.proofs.stamp.stamp_lines.Given as goal

abbrev pub invariant-reads : goal.invariant-reads
invariant-reads g l =
    SoFar (stamp_state l.fn.reader l.fn.writer (g.C.TimeSource.readings l.fn.clock))
    (stamp_state l.reader l.writer (g.C.TimeSource.readings l.clock)) l.inside l.lines
    × (l.block ≡ []) × (l.lines ≤ 32768 * l.reader.reads) × (l.writer.faults ≡ l.fn.writer.faults)
    × (l.reader.faults ≡ l.fn.reader.faults)

abbrev pub decreases-reads : goal.decreases-reads
decreases-reads g l = 2 ^ 48 - l.reader.reads
