use Rattle.std.proofs.Common.{◌≢◌, ℕ, ◌<◌, Some}
use Rattle.svc_door.specs.Slots.{number_at}
use Rattle.svc_door.proofs.table.Table.slot_of.Given as goal

abbrev pub invariant-loop-slot : goal.invariant-loop-slot
invariant-loop-slot l = (other : ℕ) → other < l.slot → number_at l.self.parts other ≢ Some l.number
