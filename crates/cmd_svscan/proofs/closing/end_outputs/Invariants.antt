use Rattle.svc_host.specs.HostRun.{Runs}
use Rattle.cmd_svscan.proofs.closing.end_outputs.Given as goal

-- the run so far
abbrev pub invariant-loop : goal.invariant-loop
invariant-loop g l = Runs l.fn.host l.host
