use Rattle.std.proofs.Common.{◌≡◌, take}
use Rattle.cmd_svscan.specs.Losses.{untraced_in}
use Rattle.cmd_svscan.proofs.losses.untraced_in.Given as goal

-- the parts so far
abbrev pub invariant-loop-part : goal.invariant-loop-part
invariant-loop-part g l = l.untraced.items ≡ untraced_in l.host.table.slots (take l.part-index l.losses)
