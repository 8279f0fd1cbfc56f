use Rattle.std.proofs.Common.{ap, arith, refl, sym, ◌∙◌}
use Rattle.std.specs.Prelude.{◌≢◌}
use Rattle.svc_host.specs.Parts.{HostPart}
use Rattle.svc_host.proofs.Going.{same_default}
use Rattle.svc_host.proofs.Looking.{holds_next}
use Rattle.svc_host.proofs.parts.place_of.Goals as goal

pub returns-then-is_part : goal.returns-then-is_part
returns-then-is_part g c =
    let within = c.loop-place-test.true in
    let same = same_default c.args.parts.now c.loop-place.place c.index-parts-place.result in
    record {
      within = within;
      here = λ d. ap (λ (p : HostPart). p.id) (sym (c.index-parts-place.is ∙ same d within)) ∙ c.if-is_part.ensures.0 refl;
    }

pub loop-place-preserved : goal.loop-place-preserved
loop-place-preserved g c =
    holds_next (λ (p : HostPart). p.id ≢ c.args.id) c.args.parts.now c.loop-place.place c.index-parts-place.result
    c.loop-place-test.true c.index-parts-place.is (λ is. grind (arith, c.if-is_part.ensures.1 is)) c.loop-place.invariant

pub returns : goal.returns
returns g c = λ k d less. c.loop-place.invariant k d (omega (arith, less, c.loop-place-test.false))
