use Rattle.std.proofs.Common.{refl}
use Rattle.svc_host.proofs.Moving.{runs_same, runs_then}
use Rattle.cmd_svscan.proofs.closing.end_outputs.Goals as goal

pub loop-init : goal.loop-init
loop-init g c = runs_same _ _ refl

pub loop-preserved : goal.loop-preserved
loop-preserved g c = runs_then _ _ _ c.loop.invariant c.end_outputs.ensures.runs

pub returns-then-may_leave : goal.returns-then-may_leave
returns-then-may_leave g c = runs_then _ _ _ c.loop.invariant c.end_outputs.ensures.runs
