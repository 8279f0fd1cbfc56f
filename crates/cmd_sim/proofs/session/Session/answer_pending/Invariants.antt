use Rattle.std.proofs.Common.{◌≡◌, ◌≤◌, ◌+◌, ℕ, List, length, Option}
use Rattle.cmd_sim.specs.Progress.{SoFar}
use Rattle.cmd_sim.proofs.session.Session.answer_pending.Given as goal

abbrev pub invariant-each : goal.invariant-each
invariant-each g l =
    ((before now held : Option (List ℕ))
    → SoFar before now held l.fn.writer.bytes l.fn.lines.pending l.fn.self.waiting l.fn.self.subject l.fn.self.count
    → SoFar before now held l.writer.bytes l.lines.pending l.self.waiting l.self.subject l.self.count)
    × (l.self.count + length l.lines.pending ≤ l.fn.self.count + length l.fn.lines.pending)
    × (l.lines.bound ≡ l.fn.lines.bound)
    × (l.writer.faults ≡ l.fn.writer.faults)
    × (length l.lines.pending ≤ length l.fn.lines.pending)

abbrev pub decreases-each : goal.decreases-each
decreases-each g l = length l.lines.pending
