use Rattle.std.proofs.Common.{refl, ◌∙◌, ◌≡◌, ◌+◌, suc, ap, arith, slice_set, slice_index_or}
use Rattle.svc_host.specs.Parts.{without_loss}
use Rattle.svc_host.proofs.Forgetting.{forgot_first, forgot_next, forgot_past}
use Rattle.svc_host.proofs.parts.forget_losses.Goals as goal

pub loop-place-init : goal.loop-place-init
loop-place-init g c = refl

pub loop-place-preserved : goal.loop-place-preserved
loop-place-preserved g c =
    let items = c.loop-place.parts.items in
    let place = c.loop-place.place in
    let all = c.args.parts.now.items in
    let d = c.index_mut.result.now in
    let next : suc place ≡ place + 1 = omega arith in
    ap (slice_set items place) (c.forget_loss.ensures ∙ ap without_loss c.index_mut.ensures.value)
    ∙ ap (λ l. slice_set l place (without_loss (slice_index_or l place d))) c.loop-place.invariant
    ∙ forgot_next place all d (omega (arith, c.loop-place-test.true))
    ∙ ap (λ n. forgot_first n all) next

pub returns : goal.returns
returns g c =
    c.loop-place.invariant
    ∙ forgot_past c.loop-place.place c.args.parts.now.items (omega (arith, c.loop-place-test.false))
