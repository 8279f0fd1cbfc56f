use Rattle.std.proofs.Common.{ap, refl, ◌∙◌, subst}
use Rattle.svc_host.specs.Mails.{WasFull}
use Rattle.svc_host.specs.Parts.{HasPosted, HostPart, IsPlace}
use Rattle.svc_host.proofs.Going.{same_default}
use Rattle.svc_host.proofs.Looking.{is_somewhere}
use Rattle.svc_host.proofs.Posting.{full_is_there, posted_is_there}
use Rattle.svc_host.proofs.parts.post_to.Goals as goal

pub returns-in-Ok-clause-there : goal.returns-in-Ok-clause-there
returns-in-Ok-clause-there g c =
    let parts = c.args.parts.now.items in
    let place = c.in-Some.place in
    let at : IsPlace c.args.id parts place =
    subst (λ parts. IsPlace c.args.id parts place) c.deref.ensures.value c.in-Some.ensures in
    (λ is. absurd (posted_is_there is), λ nowhere. absurd (is_somewhere c.args.id parts place c.index_mut.result.now at nowhere))

pub returns-in-Ok-clause-posted : goal.returns-in-Ok-clause-posted
returns-in-Ok-clause-posted g c =
    let parts = c.args.parts.now.items in
    let place = c.in-Some.place in
    let part = c.index_mut.result.now in
    let new = c.post.new.self in
    let at : IsPlace c.args.id parts place =
    subst (λ parts. IsPlace c.args.id parts place) c.deref.ensures.value c.in-Some.ensures in
    record {
      place = place;
      part = new;
      here = λ d. subst (λ (old : HostPart). HasPosted old c.args.byte new)
          (c.index_mut.ensures.value ∙ same_default parts place part d at.within) c.in-Ok.ensures;
      is = c.in-Ok.ensures.id ∙ ap (λ (p : HostPart). p.id) c.index_mut.ensures.value ∙ at.here part;
      parts = refl;
    }

pub returns-in-Err-clause-there : goal.returns-in-Err-clause-there
returns-in-Err-clause-there g c =
    let parts = c.args.parts.now.items in
    let place = c.in-Some.place in
    let at : IsPlace c.args.id parts place =
    subst (λ parts. IsPlace c.args.id parts place) c.deref.ensures.value c.in-Some.ensures in
    (λ is. absurd (full_is_there is), λ nowhere. absurd (is_somewhere c.args.id parts place c.index_mut.result.now at nowhere))

pub returns-in-Err-clause-full : goal.returns-in-Err-clause-full
returns-in-Err-clause-full g c =
    let parts = c.args.parts.now.items in
    let place = c.in-Some.place in
    let part = c.index_mut.result.now in
    let at : IsPlace c.args.id parts place =
    subst (λ parts. IsPlace c.args.id parts place) c.deref.ensures.value c.in-Some.ensures in
    λ _. record {
      place = place;
      at = at;
      full = λ d. subst (λ (here : HostPart). WasFull here.mail)
          (c.index_mut.ensures.value ∙ same_default parts place part d at.within) c.in-Err.ensures.1;
    }
