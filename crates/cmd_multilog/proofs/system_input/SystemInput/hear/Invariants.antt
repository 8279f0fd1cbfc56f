use Rattle.std.proofs.Common.{◌≡◌}
use Rattle.cmd_multilog.proofs.system_input.SystemInput.hear.Given as goal

abbrev pub invariant-loop : goal.invariant-loop
invariant-loop g l = l.self.failures ≡ l.fn.self.failures
