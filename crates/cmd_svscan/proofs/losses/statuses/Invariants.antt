use Rattle.std.proofs.Common.{◌≡◌, map, take}
use Rattle.std.specs.List.{All}
use Rattle.cmd_svscan.specs.Leftovers.{AreRead, part_of}
use Rattle.cmd_svscan.proofs.Leftovers.{IsSomewhere}
use Rattle.cmd_svscan.proofs.losses.statuses.Given as goal

-- the parts so far were read, and the host has them all
abbrev pub invariant-loop-part : goal.invariant-loop-part
invariant-loop-part g l = record {
  each : map part_of l.read.items ≡ take l.part-index l.part-items;
  read : AreRead l.read.items l.fn.host.parts l.host.parts;
  table : l.host.table ≡ l.fn.host.table;
  there : All (IsSomewhere l.host.parts) l.part-items;
}
