use Rattle.std.proofs.Common.{◌≡◌, take}
use Rattle.svc_door.specs.Dues.{soonest_due}
use Rattle.svc_door.proofs.table.soonest_due.Given as goal

-- the earliest time so far
abbrev pub invariant-loop-slot : goal.invariant-loop-slot
invariant-loop-slot l = l.soonest ≡ soonest_due l.parts (take l.slot-index l.slots)
