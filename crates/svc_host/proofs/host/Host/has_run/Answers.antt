use Rattle.std.proofs.Common.{subst}
use Rattle.svc_host.specs.HostRun.{CameToBe}
use Rattle.svc_host.proofs.host.Host.has_run.Goals as goal

pub returns : goal.returns
returns g c = subst CameToBe c.self.view_is c.self.invariant
