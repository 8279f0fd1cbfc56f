use Rattle.std.proofs.Common.{refl}
use Rattle.svc_host.proofs.Moving.{came_then, forgets_run}
use Rattle.svc_host.proofs.host.Host.forget_losses.Goals as goal

pub invariant_of-self : goal.invariant_of-self
invariant_of-self g c = came_then _ _ c.self.invariant (forgets_run _ _ refl c.forget_losses.ensures)

pub returns-clause-runs : goal.returns-clause-runs
returns-clause-runs g c = rw (← c.self.view_is) (forgets_run _ _ refl c.forget_losses.ensures)
