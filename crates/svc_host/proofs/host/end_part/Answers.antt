use Rattle.std.proofs.Common.{◌≡◌, ap, refl, slice_index_or, subst, ◌∙◌}
use Rattle.scan_table.specs.declared.part.PartId.{PartId}
use Rattle.svc_host.specs.Ending.{EndsNext}
use Rattle.svc_host.specs.Outputs.{EndsInput}
use Rattle.svc_host.specs.Parts.{HostPart, service_runs}
use Rattle.svc_host.proofs.Going.{same_default}
use Rattle.svc_host.proofs.host.end_part.Goals as goal

pub returns-clause-step : goal.returns-clause-step
returns-clause-step g c =
    let parts = c.args.parts.now.items in
    let place = c.args.place in
    let part = c.index_mut.result.now in
    let new = c.end_next.new.self in
    let runs = c.service_runs-service_runs.result in
    let waited = c.waited_for-waited.result in
    record {
      waited = waited;
      part = new;
      next = λ d.
          let first : c.index.result.now ≡ slice_index_or parts place d =
          c.index.ensures ∙ same_default parts place c.index.result.now d c.requires in
          let here : part ≡ slice_index_or parts place d =
          c.index_mut.ensures.value ∙ same_default parts place part d c.requires in
          let so : runs ≡ service_runs (slice_index_or parts place d).id.slot parts =
          c.service_runs-service_runs.ensures ∙ ap (service_runs c.id-slot.result.slot) c.deref.ensures.value
          ∙ ap (λ (id : PartId). service_runs id.slot parts) (c.id-slot.ensures ∙ ap (λ (p : HostPart). p.id) first) in
          subst (λ runs. EndsNext runs waited (slice_index_or parts place d) new) so
          (subst (λ (old : HostPart). EndsNext runs waited old new) here c.end_next.ensures);
      parts = refl;
    }

pub returns-clause-input : goal.returns-clause-input
returns-clause-input g c = λ d.
    let parts = c.args.parts.now.items in
    let part = c.index-2.result.now in
    let new = g.M.Maker.calls c.end_input.new.factory.maker in
    subst (λ (here : HostPart). EndsInput here (g.M.Maker.calls c.args.factory.now.maker) new)
    (c.index-2.ensures ∙ same_default parts c.args.place part d c.requires)
    (subst (λ calls. EndsInput part calls new) c.waited_for-waited.ensures c.end_input.ensures)
