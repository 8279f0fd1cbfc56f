use Rattle.std.proofs.Common.{map, take}
use Rattle.svscan_rounds.specs.Rounds.{unlogged_report, ReportsAll}
use Rattle.svscan_rounds.proofs.rounds.report_unlogged.Given as goal

-- the items so far are reported
abbrev pub invariant-loop-unlogged : goal.invariant-loop-unlogged
invariant-loop-unlogged g l = ReportsAll (map unlogged_report (take l.unlogged-index l.all)) l.fn.faults l.faults
