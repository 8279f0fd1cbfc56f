use Rattle.std.proofs.Common.{subst}
use Rattle.suite_core.specs.Places.{IsPlaceOf, HasNone}
use Rattle.suite_core.proofs.Placed.{restarted-at, restarted-nowhere}
use Rattle.suite_core.proofs.place.restart.Goals as goal

pub returns-in-Some : goal.returns-in-Some
returns-in-Some g c =
    restarted-at c.args.parts.now c.args.new c.in-Some.place c.requires
    (subst (λ id. IsPlaceOf c.args.parts.now id c.in-Some.place) c.id.ensures c.in-Some.ensures)

pub returns-in_default : goal.returns-in_default
returns-in_default g c =
    restarted-nowhere c.args.parts.now c.args.new
    (subst (λ id. HasNone c.args.parts.now id) c.id.ensures c.in_default.ensures)
