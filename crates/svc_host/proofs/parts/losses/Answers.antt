use Rattle.std.proofs.Common.{ap, ◌∙◌, ◌++◌, ◌∷◌, []}
use Rattle.svc_host.specs.Parts.{losses_in}
use Rattle.svc_host.proofs.Filters.{losses_split}
use Rattle.svc_host.proofs.Looking.{found_next}
use Rattle.svc_host.proofs.parts.losses.Goals as goal

pub loop-part-preserved : goal.loop-part-preserved
loop-part-preserved g c =
    let part = c.part-item.result in
    c.in_ok-add_loss.ensures
    ∙ ap (λ losses. losses ++ losses_in (part ∷ [])) c.loop-part.invariant
    ∙ found_next losses_in losses_split c.args.parts.now c.loop-part.part-index part c.loop-part-test.true c.part-item.is
