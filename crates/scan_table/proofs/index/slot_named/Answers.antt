use Rattle.scan_table.proofs.Whole.{named-some, named-none}
use Rattle.scan_table.proofs.index.slot_named.Goals as goal

pub returns-in-Ok : goal.returns-in-Ok
returns-in-Ok g c =
    named-some c.args.slots.now c.args.index.now c.args.name.now c.in-Ok.place c.index-slots-index.result
    c.requires.index c.requires.whole c.in-Ok.ensures c.index-slots-index.is

pub returns-in-Err : goal.returns-in-Err
returns-in-Err g c =
    named-none c.args.slots.now c.args.index.now c.args.name.now c.in-Err.field-0 c.requires.index c.requires.whole
    c.in-Err.ensures
