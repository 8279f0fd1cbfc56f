use Rattle.std.proofs.Common.{subst, sym}
use Rattle.svc_host.specs.Parts.{IsPlace, IsReading}
use Rattle.svc_host.proofs.Going.{none_heard, reads, step_heard}
use Rattle.svc_host.proofs.parts.status_of.Given as given
use Rattle.svc_host.proofs.parts.status_of.Goals as goal

pub returns-in_err-place-clause-parts : goal.returns-in_err-place-clause-parts
returns-in_err-place-clause-parts g c = none_heard c.args.parts.now.items

at : (g : given.Over) (c : goal.After-view g) → IsPlace c.args.id c.args.parts.now.items c.in_ok-place.place
at g c = subst (λ parts. IsPlace c.args.id parts c.in_ok-place.place) c.deref.ensures.value c.in_ok-place.ensures

pub returns-clause-parts : goal.returns-clause-parts
returns-clause-parts g c =
    step_heard c.args.parts.now.items c.in_ok-place.place c.machine_at.new.parts.items c.machine_at.ensures.step

pub returns-clause-there : goal.returns-clause-there
returns-clause-there g c =
    subst (IsReading c.args.id c.machine_at.new.parts.items) (sym c.view.ensures.view)
    (reads c.args.id c.args.parts.now.items c.in_ok-place.place c.machine_at.new.parts.items c.machine_at.result
    (at g c) c.machine_at.ensures.step c.machine_at.ensures.reading
    c.machine_at.ensures.gone)
