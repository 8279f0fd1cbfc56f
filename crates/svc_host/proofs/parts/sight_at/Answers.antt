use Rattle.std.proofs.Common.{◌≡◌, ℕ, ◌<◌, List, false, length, refl, inl, inr, slice_index_or, subst, ◌∙◌}
use Rattle.svc_host.specs.Parts.{HostPart, IsRead, RunsHere, runs_at}
use Rattle.svc_host.proofs.Going.{same_default}
use Rattle.svc_host.proofs.parts.sight_at.Goals as goal

pub returns-in-Some : goal.returns-in-Some
returns-in-Some g c =
    let parts = c.args.parts.now.items in
    let place = c.in-Some.place in
    let part = c.index_mut.result.now in
    let new = c.sight.new.self in
    let here : RunsHere c.args.slot c.args.role parts place =
    subst (λ parts. RunsHere c.args.slot c.args.role parts place) c.deref.ensures.value c.in-Some.ensures in
    inr (
      place,
      new,
      here.within,
      (λ d. (
        here.runs d,
        subst (λ (old : HostPart). IsRead old new)
            (c.index_mut.ensures.value ∙ same_default parts place part d here.within) c.sight.ensures.read,
      )),
      refl,
      c.sight.ensures.sight,
    )

pub returns-in-None : goal.returns-in-None
returns-in-None g c =
    inl (
      subst (λ (parts : List HostPart). (k : ℕ) (d : HostPart) → k < length parts
          → runs_at c.args.slot c.args.role (slice_index_or parts k d) ≡ false) c.deref.ensures.value c.in-None.ensures,
      refl,
      refl,
    )
