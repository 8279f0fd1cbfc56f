use Rattle.std.proofs.Common.{◌≡◌}
use Rattle.cmd_multilog.specs.Names.{old_names}
use Rattle.cmd_multilog.proofs.names.old_names.Given as goal

abbrev pub invariant-loop-name : goal.invariant-loop-name
invariant-loop-name g l = l.olds.names.items ≡ old_names l.yielded
