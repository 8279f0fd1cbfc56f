use Rattle.scan_table.proofs.Placed.{ended-at, running-at, ended-nowhere, running-nowhere}
use Rattle.scan_table.proofs.place.end_part.Goals as goal

pub returns-in-Some-clause-slots : goal.returns-in-Some-clause-slots
returns-in-Some-clause-slots g c =
    ended-at c.args.slots.now c.args.part c.in-Some.place c.index-slots-place.result c.end.new.self c.requires
    c.in-Some.ensures c.end.ensures.slot

pub returns-in-Some-clause-running : goal.returns-in-Some-clause-running
returns-in-Some-clause-running g c =
    running-at c.args.slots.now c.args.part c.in-Some.place c.index-slots-place.result c.end.result c.requires
    c.in-Some.ensures c.end.ensures.running

pub returns-in-None-clause-slots : goal.returns-in-None-clause-slots
returns-in-None-clause-slots g c = ended-nowhere c.args.slots.now c.args.part c.in-None.ensures

pub returns-in-None-clause-running : goal.returns-in-None-clause-running
returns-in-None-clause-running g c = running-nowhere c.args.slots.now c.args.part c.in-None.ensures
