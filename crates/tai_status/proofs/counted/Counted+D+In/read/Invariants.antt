use Rattle.std.proofs.Common.{◌≤◌, ◌-◌, ◌^◌}
use Rattle.tai_status.specs.Counted.{Works, GivesNothing}
use Rattle.tai_status.proofs.counted.Counted+D+In.read.Given as goal

abbrev pub invariant-loop-self : goal.invariant-loop-self
invariant-loop-self g l =
    GivesNothing l.fn.self l.self × (l.fn.self.reads ≤ l.self.reads) × Works l.fn.self l.self

abbrev pub decreases-loop-self : goal.decreases-loop-self
decreases-loop-self g l = 2 ^ 48 - l.self.reads
