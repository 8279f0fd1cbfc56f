use Rattle.svc_host.proofs.Killing.{once}
use Rattle.svc_host.proofs.kill.once_for_each_asking.Goals as goal

pub returns : goal.returns
returns c = once
