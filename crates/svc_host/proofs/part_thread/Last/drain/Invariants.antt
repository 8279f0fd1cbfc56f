use Rattle.std.proofs.Common.{◌≡◌}
use Rattle.svc_host.proofs.part_thread.Last.drain.Given as goal

abbrev pub invariant-loop : goal.invariant-loop
invariant-loop g l = (l.self.reader ≡ l.fn.self.reader) × (l.self.machine ≡ l.fn.self.machine)
