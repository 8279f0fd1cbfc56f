use mathlib.Core.List.{IsPrefix}
use Rattle.cmd_svscan.proofs.losses.add_unwritten.Given as goal

-- what was there stays at the front
abbrev pub invariant-loop-part : goal.invariant-loop-part
invariant-loop-part g l = IsPrefix l.fn.all.items l.all.items
