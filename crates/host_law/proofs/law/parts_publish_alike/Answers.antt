use Rattle.host_law.proofs.Publishing.{publishes}
use Rattle.host_law.proofs.law.parts_publish_alike.Goals as goal

pub returns : goal.returns
returns g c = publishes
