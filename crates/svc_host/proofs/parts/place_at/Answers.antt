use Rattle.std.proofs.Common.{◌≡◌, false, sym, ◌∙◌}
use Rattle.svc_host.specs.Parts.{HostPart, runs_at}
use Rattle.svc_host.proofs.Looking.{holds_next}
use Rattle.svc_host.proofs.parts.place_at.Goals as goal

pub loop-place-preserved : goal.loop-place-preserved
loop-place-preserved g c =
    holds_next (λ (part : HostPart). runs_at c.args.slot c.args.role part ≡ false) c.args.parts.now c.loop-place.place
    c.index-parts-place.result c.loop-place-test.true c.index-parts-place.is
    (sym c.runs_at.ensures ∙ c.if-runs_at.false) c.loop-place.invariant
