use Rattle.std.proofs.Common.{◌≡◌, take}
use Rattle.cmd_svscan.specs.Losses.{unmade_in}
use Rattle.cmd_svscan.proofs.losses.unmade_in.Given as goal

-- the parts so far
abbrev pub invariant-loop-one : goal.invariant-loop-one
invariant-loop-one g l = l.all.items ≡ unmade_in l.host.table.slots (take l.one-index l.failed)
