use Rattle.svc_host.proofs.Calling.{trace-none}
use Rattle.svc_host.proofs.host.keep_trace.Goals as goal

pub returns-clause-hands : goal.returns-clause-hands
returns-clause-hands g c =
    trace-none c.index_mut-part.result.now.kept c.keep_trace.new.part c.keep_trace.result _ _ c.keep_trace.ensures.hands
