use Rattle.std.proofs.Common.{◌≡◌, ◌≤◌, ◌+◌, ◌-◌, ◌*◌, ◌^◌, [], length}
use Rattle.cmd_sim.specs.Progress.{SoFar}
use Rattle.cmd_sim.proofs.session.answer_lines.Given as goal

abbrev pub invariant-reads : goal.invariant-reads
invariant-reads g l =
    SoFar l.fn.reader.bytes l.reader.bytes l.fn.writer.bytes l.writer.bytes
    l.lines.pending l.session.waiting l.session.subject l.session.count
    × (l.session.waiting ≡ []) × (l.lines.bound ≡ 65536)
    × (l.session.count + length l.lines.pending ≤ 32768 * l.reader.reads)
    × (l.reader.faults ≡ l.fn.reader.faults) × (l.writer.faults ≡ l.fn.writer.faults)
    × (l.session.count + length l.lines.pending ≤ 32768 * 2 ^ 48)
    × (length l.lines.pending ≤ 98304)

abbrev pub decreases-reads : goal.decreases-reads
decreases-reads g l = 2 ^ 48 - l.reader.reads
