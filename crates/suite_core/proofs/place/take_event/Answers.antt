use Rattle.suite_core.proofs.Placed.{after-at, out-at, ended-at}
use Rattle.suite_core.proofs.place.take_event.Goals as goal

pub returns-clause-parts : goal.returns-clause-parts
returns-clause-parts g c =
    after-at c.args.parts.now c.args.id c.args.event c.args.place c.index-parts-place.result c.take.new.self
    c.requires.rising c.requires.at c.take.ensures.part

pub returns-clause-out : goal.returns-clause-out
returns-clause-out g c =
    out-at c.args.parts.now c.args.id c.args.event c.args.place c.index-parts-place.result _ c.requires.rising
    c.requires.at c.take.ensures.out

pub returns-clause-ended : goal.returns-clause-ended
returns-clause-ended g c =
    ended-at c.args.parts.now c.args.id c.args.event c.args.place c.index-parts-place.result c.take.result.1
    c.requires.rising c.requires.at c.take.ensures.ended
