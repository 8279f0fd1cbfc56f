use Rattle.std.proofs.Common.{take, false}
use Rattle.cmd_svc.specs.Svc.{Serves, sending}
use Rattle.svc_client.specs.Turns.{InTurn}
use Rattle.cmd_wait.specs.Finding.{awaited}
use Rattle.cmd_wait.specs.Restarting.{restart_bytes, restart_warning, sent_to}
use Rattle.cmd_wait.proofs.restart.end_each.Given as goal

-- the services so far are served
abbrev pub invariant-loop-entry : goal.invariant-loop-entry
invariant-loop-entry g l =
    InTurn (Serves restart_warning restart_bytes) (sent_to (awaited (take l.entry-index l.entries)))
    (sending (g.S.Services.calls l.fn.services) l.fn.faults false)
    (sending (g.S.Services.calls l.services) l.faults l.missed)
