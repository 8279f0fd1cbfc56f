use Rattle.std.proofs.Common.{take, map}
use Rattle.cmd_svc.specs.Missing.{TellsEach, telling}
use Rattle.cmd_svc.proofs.missing.tell_missing.Given as goal

-- the folders so far were looked for
abbrev pub invariant-loop-folder : goal.invariant-loop-folder
invariant-loop-folder g l =
    TellsEach l.command (map (λ word. word.now) (take l.folder-index l.folders))
    (telling (g.S.Services.calls l.fn.services) l.fn.faults) (telling (g.S.Services.calls l.services) l.faults)
