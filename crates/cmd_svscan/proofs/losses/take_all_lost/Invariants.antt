use Rattle.std.proofs.Common.{◌≡◌}
use Rattle.cmd_svscan.specs.Leftovers.{AreTaken}
use Rattle.cmd_svscan.proofs.losses.take_all_lost.Given as goal

-- the pairs so far
abbrev pub invariant-loop : goal.invariant-loop
invariant-loop g l = record {
  taken : AreTaken l.all.items l.fn.host l.host;
  table : l.host.table ≡ l.fn.host.table;
}
