use Rattle.std.proofs.Common.{refl}
use Rattle.svc_host.proofs.Going.{none_heard}
use Rattle.svc_host.proofs.Moving.{came_then, heard_runs}
use Rattle.svc_host.proofs.host.Host.keep_traces.Goals as goal

pub returns-then-eq-clause-parts : goal.returns-then-eq-clause-parts
returns-then-eq-clause-parts g c = none_heard c.args.self.now.parts

pub invariant_of-self : goal.invariant_of-self
invariant_of-self g c =
    came_then _ _ c.self.invariant (heard_runs _ _ refl c.keep_traces.ensures.parts)

pub invariant_of-self-else-keep_traces : goal.invariant_of-self-else-keep_traces
invariant_of-self-else-keep_traces g c =
    came_then _ _ c.self.invariant (heard_runs _ _ refl c.keep_traces.ensures.parts)

pub returns-then-keep_traces-clause-runs : goal.returns-then-keep_traces-clause-runs
returns-then-keep_traces-clause-runs g c = rw (← c.self.view_is) (heard_runs _ _ refl c.keep_traces.ensures.parts)

pub returns-else-keep_traces-clause-runs : goal.returns-else-keep_traces-clause-runs
returns-else-keep_traces-clause-runs g c = rw (← c.self.view_is) (heard_runs _ _ refl c.keep_traces.ensures.parts)
