use Rattle.std.proofs.Common.{◌≡◌, take}
use Rattle.cmd_svscan.specs.Leftovers.{unlogged_in}
use Rattle.cmd_svscan.proofs.losses.unlogged_in.Given as goal

-- the services so far
abbrev pub invariant-loop-slot : goal.invariant-loop-slot
invariant-loop-slot g l = l.all.items ≡ unlogged_in l.host.table.slots (take l.slot-index l.lost)
