use Rattle.suite_core.proofs.Placed.{trace-none, read-other-life}
use Rattle.suite_core.proofs.place.find.Goals as goal

pub returns-in_default : goal.returns-in_default
returns-in_default g c =
    read-other-life c.args.parts.now c.in-Some.place c.index-parts-place.result c.args.id c.id.result c.is_part.result
    c.requires c.in-Some.ensures c.index-parts-place.is c.id.ensures c.is_part.ensures c.if-is_part.false

pub returns-in_default-2 : goal.returns-in_default-2
returns-in_default-2 g c = trace-none c.args.parts.now c.args.id c.in_default.ensures
