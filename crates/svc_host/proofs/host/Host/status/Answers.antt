use Rattle.std.proofs.Common.{refl}
use Rattle.svc_host.proofs.Moving.{came_then, heard_runs}
use Rattle.svc_host.proofs.host.Host.status.Goals as goal

pub invariant_of-self : goal.invariant_of-self
invariant_of-self g c = came_then _ _ c.self.invariant (heard_runs _ _ refl c.status_of.ensures.parts)

pub returns-clause-runs : goal.returns-clause-runs
returns-clause-runs g c = rw (← c.self.view_is) (heard_runs _ _ refl c.status_of.ensures.parts)

pub returns-clause-there : goal.returns-clause-there
returns-clause-there g c = rw (← c.self.view_is) c.status_of.ensures.there
