use Rattle.std.proofs.Common.{take}
use Rattle.svc_client.specs.Turns.{InTurn}
use Rattle.cmd_wait.specs.Finding.{entry_folders}
use Rattle.cmd_wait.specs.Ends.{ReportsOver}
use Rattle.cmd_wait.proofs.sayings.report_over.Given as goal

-- the services so far are reported
abbrev pub invariant-loop-entry : goal.invariant-loop-entry
invariant-loop-entry g l =
    InTurn (ReportsOver l.command l.state) (entry_folders (take l.entry-index l.left)) l.fn.faults l.faults
