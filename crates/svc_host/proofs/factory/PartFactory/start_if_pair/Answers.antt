use Rattle.svc_host.proofs.Calling.{hands-none, start-none}
use Rattle.svc_host.proofs.factory.PartFactory.start_if_pair.Goals as goal

pub returns-then-is_pair-clause-hands : goal.returns-then-is_pair-clause-hands
returns-then-is_pair-clause-hands g c = start-none _ _ _ _ _ _ _ c.start_pair.ensures.starts

pub returns-clause-hands : goal.returns-clause-hands
returns-clause-hands g c = hands-none _
