use Rattle.scan_table.proofs.Placed.{slot-at-here, slot-at-nowhere}
use Rattle.scan_table.proofs.place.slot_at.Goals as goal

pub returns-in-Some : goal.returns-in-Some
returns-in-Some g c =
    slot-at-here c.args.slots.now c.args.number c.in-Some.place c.index-slots-place.result c.requires c.in-Some.ensures
    c.index-slots-place.is

pub returns-in-None : goal.returns-in-None
returns-in-None g c = slot-at-nowhere c.args.slots.now c.args.number c.in-None.ensures
