use Rattle.std.proofs.Common.{take, Some}
use Rattle.svc_client.specs.Turns.{InTurn}
use Rattle.cmd_wait.specs.Finding.{entry_folders}
use Rattle.cmd_wait.specs.Watching.{Learns, learnt}
use Rattle.cmd_wait.proofs.watch.newest_change.Given as goal

-- it was asked for the folders so far
abbrev pub invariant-loop-entry : goal.invariant-loop-entry
invariant-loop-entry g l =
    InTurn Learns (entry_folders (take l.entry-index l.entries)) (learnt (Some 0) (g.S.Services.calls l.fn.services))
    (learnt l.newest (g.S.Services.calls l.services))
