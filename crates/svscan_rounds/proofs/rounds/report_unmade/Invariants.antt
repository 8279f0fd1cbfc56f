use Rattle.std.proofs.Common.{map, take}
use Rattle.svscan_rounds.specs.Rounds.{unmade_report, ReportsAll}
use Rattle.svscan_rounds.proofs.rounds.report_unmade.Given as goal

-- the parts so far are reported
abbrev pub invariant-loop-unmade : goal.invariant-loop-unmade
invariant-loop-unmade g l = ReportsAll (map unmade_report (take l.unmade-index l.all)) l.fn.faults l.faults
