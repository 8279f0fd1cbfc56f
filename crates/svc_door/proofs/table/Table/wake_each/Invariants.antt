use Rattle.std.proofs.Common.{◌≡◌, map}
use Rattle.svc_door.specs.Turning.{WakesEach, slot_of}
use Rattle.svc_door.proofs.table.Table.wake_each.Given as goal

abbrev pub invariant-loop-event : goal.invariant-loop-event
invariant-loop-event l = record {
  wakes : WakesEach l.now (map slot_of (map (λ event. event.now) l.yielded)) l.fn.self.parts l.self.parts;
  ends : l.self.ends ≡ l.fn.self.ends;
}
