use Rattle.std.proofs.Common.{take, false}
use Rattle.svc_client.specs.Turns.{InTurn}
use Rattle.cmd_svc.specs.Svc.{sending, Serves, svc_warning}
use Rattle.cmd_svc.proofs.svc.serve_each.Given as goal

-- the services so far are served
abbrev pub invariant-loop-name : goal.invariant-loop-name
invariant-loop-name g l = InTurn (Serves svc_warning l.bytes) (take l.name-index l.names)
    (sending (g.S.Services.calls l.fn.services) l.fn.faults false)
    (sending (g.S.Services.calls l.services) l.faults l.missed)
