use Rattle.std.proofs.Common.{◌≡◌, take}
use Rattle.cmd_svscan.specs.Leftovers.{remaining_in}
use Rattle.cmd_svscan.proofs.losses.remaining_in.Given as goal

-- the processes so far
abbrev pub invariant-loop-part : goal.invariant-loop-part
invariant-loop-part g l = l.left.items ≡ remaining_in l.host.table.slots (take l.part-index l.read)
