use Rattle.std.proofs.Common.{ap, ◌∙◌, ◌++◌, ◌∷◌, []}
use Rattle.svc_host.specs.Parts.{running_ids}
use Rattle.svc_host.proofs.Filters.{running_splits}
use Rattle.svc_host.proofs.Looking.{found_next}
use Rattle.svc_host.proofs.parts.running_ids.Goals as goal

pub loop-part-preserved : goal.loop-part-preserved
loop-part-preserved g c =
    let part = c.part-item.result in
    c.in_ok-add_running.ensures
    ∙ ap (λ ids. ids ++ running_ids (part ∷ [])) c.loop-part.invariant
    ∙ found_next running_ids running_splits c.args.parts.now c.loop-part.part-index part c.loop-part-test.true c.part-item.is
