use Rattle.std.proofs.Common.{◌<◌, refl, ap, ◌∙◌, length, slice_index_or, subst, arith}
use Rattle.svc_host.specs.Rounds.{HostState}
use Rattle.svc_host.proofs.Collecting.{collected_none, collected_next}
use Rattle.svc_host.proofs.Going.{others_stay, set_length}
use Rattle.svc_host.proofs.Moving.{collected_runs}
use Rattle.svc_host.proofs.host.Host.collect.Goals as goal

pub loop-place-init : goal.loop-place-init
loop-place-init g c = record {
  collected = collected_none _;
  count = refl;
  left =
      λ k d less. refl;
}

pub loop-place-preserved : goal.loop-place-preserved
loop-place-preserved g c =
    let at = c.loop-place.invariant in
    let step = c.reap.ensures.parts in
    let mids = c.loop-place.self.parts in
    let place = c.loop-place.place in
    let here : place < length c.self.inside.parts.items = omega (arith, c.loop-place-test.true) in
    let within = subst (λ (host : HostState). place < length host.parts) c.self.view_is here in
    record {
      collected = collected_next c.args.self.now c.loop-place.self c.reap.new.self
          place within at.collected at.count at.left step c.reap.result
          c.reap.ensures.ended c.reap.ensures.table c.reap.ensures.ran c.reap.ensures.returned
          c.reap.ensures.joined c.reap.ensures.gone c.reap.ensures.same;
      count = ap length step.parts ∙ set_length mids place step.part ∙ at.count;
      left = λ k d less. ap (λ l. slice_index_or l k d) step.parts
          ∙ others_stay mids place step.part k d (omega (arith, less)) ∙ at.left k d (omega (arith, less));
    }

pub returns-clause-runs : goal.returns-clause-runs
returns-clause-runs g c = collected_runs c.args.self.now c.loop-place.self c.loop-place.invariant.collected
