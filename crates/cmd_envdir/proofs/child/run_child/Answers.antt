use Rattle.std.proofs.Common.{inr}
use Rattle.cmd_envdir.specs.System.{launch_of}
use Rattle.cmd_envdir.proofs.child.run_child.Goals as goal

pub returns-in-Ok-launch-clause-ok : goal.returns-in-Ok-launch-clause-ok
returns-in-Ok-launch-clause-ok g c = record {
  launch = launch_of c.in-Ok.command c.launch.result;
  handed = c.launch.ensures.handed;
  start = c.in-Ok.ensures;
  ended = rw c.in-Ok-launch.is c.child_status.ensures;
}

pub returns-clause-none : goal.returns-clause-none
returns-clause-none g c =
    inr (record {
      launch = launch_of c.in-Ok.command c.launch.result;
      handed = c.launch.ensures.handed;
      start = c.in-Ok.ensures;
      failed = rw c.in-Err.is c.start_fault.ensures.cause;
    })
