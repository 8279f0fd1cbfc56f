use Rattle.scan_table.proofs.Placed.{renewed-at, renewed-nowhere}
use Rattle.scan_table.proofs.place.restart.Goals as goal

pub returns-in-Some : goal.returns-in-Some
returns-in-Some g c =
    renewed-at c.args.slots.now c.args.part c.in-Some.place c.index-slots-place.result c.restart.new.self c.requires
    c.in-Some.ensures c.restart.ensures

pub returns-in_default : goal.returns-in_default
returns-in_default g c = renewed-nowhere c.args.slots.now c.args.part c.in_default.ensures
