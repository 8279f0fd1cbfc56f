use Rattle.std.proofs.Common.{◌≡◌, take}
use Rattle.cmd_multilog.specs.Names.{greatest_in}
use Rattle.cmd_multilog.proofs.names.greatest_in.Given as goal

abbrev pub invariant-loop-name : goal.invariant-loop-name
invariant-loop-name g l = l.greatest ≡ greatest_in (take l.name-index l.names)
