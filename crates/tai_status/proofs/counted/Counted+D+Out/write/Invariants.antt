use Rattle.std.proofs.Common.{◌≡◌}
use Rattle.tai_status.specs.Counted.{Works, GivesNothing}
use Rattle.tai_status.proofs.counted.Counted+D+Out.write.Given as goal

abbrev pub invariant-loop : goal.invariant-loop
invariant-loop g l = GivesNothing l.fn.self l.self × (l.self.reads ≡ l.fn.self.reads) × Works l.fn.self l.self
