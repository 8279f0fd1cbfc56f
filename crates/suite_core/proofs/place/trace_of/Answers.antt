use Rattle.std.proofs.Common.{Some, sym, ap, ◌∙◌}
use Rattle.suite_core.proofs.Placed.{trace-here}
use Rattle.suite_core.proofs.place.trace_of.Goals as goal

pub returns-in-Some : goal.returns-in-Some
returns-in-Some g c =
    ap (λ trace. Some trace) c.trace.ensures
    ∙ sym (trace-here c.args.parts.now c.args.id c.in-Some.place c.index-parts-place.result c.requires
    c.in-Some.ensures c.index-parts-place.is)
