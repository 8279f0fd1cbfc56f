use Rattle.std.proofs.Common.{ap, refl, rules}
use Rattle.svc_host.specs.Rounds.{HostState}
use Rattle.svc_host.proofs.Moving.{asks, came_then}
use Rattle.svc_host.proofs.host.Host.ask_maker.Goals as goal

pub invariant_of-self : goal.invariant_of-self
invariant_of-self g c = came_then _ _ c.self.invariant (asks _ _ refl refl)

pub returns-clause-asked : goal.returns-clause-asked
returns-clause-asked g c = (
  c.self.inside.factory.maker,
  c.ask.new.arg2,
  ap (λ (host : HostState). host.calls) c.self.view_is,
  refl,
  search rules,
)

pub returns-clause-runs : goal.returns-clause-runs
returns-clause-runs g c = rw (← c.self.view_is) (asks _ _ refl refl)
