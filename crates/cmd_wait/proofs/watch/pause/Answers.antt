use Rattle.cmd_wait.specs.Watching.{none, more}
use Rattle.cmd_wait.proofs.watch.pause.Goals as goal

pub loop-init : goal.loop-init
loop-init g c = none

pub loop-preserved : goal.loop-preserved
loop-preserved g c = more c.loop.invariant c.if-rest_once.ensures
