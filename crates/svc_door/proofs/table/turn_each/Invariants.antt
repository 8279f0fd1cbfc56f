use Rattle.std.proofs.Common.{◌≡◌, take}
use Rattle.slab.specs.Slab.{slab_len}
use Rattle.svc_door.specs.Turning.{TurnsOf}
use Rattle.svc_door.proofs.table.turn_each.Given as goal

abbrev pub invariant-loop-slot : goal.invariant-loop-slot
invariant-loop-slot g l = record {
  turns : TurnsOf l.fn.now (take l.slot-index l.slots) l.fn.parts l.parts;
  len : slab_len l.parts ≡ slab_len l.fn.parts;
}
