use Rattle.std.proofs.Common.{refl}
use Rattle.svc_host.proofs.Moving.{asks, came_then, ends_run, runs_then, runs_through}
use Rattle.svc_host.proofs.host.Host.end_services.Goals as goal

pub invariant_of-self : goal.invariant_of-self
invariant_of-self g c = came_then _ _ c.self.invariant (asks _ _ refl refl)

pub invariant_of-self-2 : goal.invariant_of-self-2
invariant_of-self-2 g c = came_then _ _ c.self-2.invariant (ends_run _ _ _ refl c.end_parts.ensures)

pub returns-clause-runs : goal.returns-clause-runs
returns-clause-runs g c =
    rw (← c.self.view_is)
    (runs_through _ _ _ _ (runs_then _ _ _ (asks _ _ refl refl) c.collect.ensures.runs) c.self-2.view_is
    (ends_run _ _ _ refl c.end_parts.ensures))
