use Rattle.std.proofs.Common.{◌≡◌, List, ap, refl, subst, Err}
use Rattle.std.specs.Prelude.{◌↔◌}
use Rattle.svc_host.specs.declared.host.PostFault.TheVariants.{NoSuchPart}
use Rattle.svc_host.specs.Parts.{HostPart, IsNowhere}
use Rattle.svc_host.specs.Rounds.{HostState}
use Rattle.svc_host.proofs.Moving.{came_then, post_runs}
use Rattle.svc_host.proofs.Posting.{on_fault}
use Rattle.svc_host.proofs.host.Host.post.Goals as goal

pub returns-clause-there : goal.returns-clause-there
returns-clause-there g c =
    subst (λ host. (c.post_to.result ≡ Err NoSuchPart) ↔ IsNowhere c.args.id host.parts) c.self.view_is
    c.post_to.ensures.there

pub invariant_of-self : goal.invariant_of-self
invariant_of-self g c =
    came_then _ _ c.self.invariant (post_runs _ _ c.args.id c.args.byte c.post_to.result refl c.post_to.ensures.posted
    c.post_to.ensures.unchanged)

pub returns-clause-runs : goal.returns-clause-runs
returns-clause-runs g c =
    rw (← c.self.view_is) (post_runs _ _ c.args.id c.args.byte c.post_to.result refl c.post_to.ensures.posted
    c.post_to.ensures.unchanged)

pub returns-clause-posted : goal.returns-clause-posted
returns-clause-posted g c = rw (← c.self.view_is) c.post_to.ensures.posted

pub returns-clause-full : goal.returns-clause-full
returns-clause-full g c = rw (← c.self.view_is) c.post_to.ensures.full

pub returns-clause-unchanged : goal.returns-clause-unchanged
returns-clause-unchanged g c =
    let with_parts : List HostPart → HostState = λ parts. record {
      table = c.self.inside.table;
      parts = parts;
      calls = g.M.Maker.calls c.self.inside.factory.maker;
    } in
    rw (← c.self.view_is) (on_fault c.post_to.result (λ same. ap with_parts same) c.post_to.ensures.unchanged)
