use Rattle.std.proofs.Common.{map, take}
use Rattle.svscan_rounds.specs.Rounds.{name_report, ReportsAll}
use Rattle.svscan_rounds.proofs.rounds.report_names.Given as goal

-- the names so far are reported
abbrev pub invariant-loop-name : goal.invariant-loop-name
invariant-loop-name g l = ReportsAll (map (name_report l.what) (take l.name-index l.names)) l.fn.faults l.faults
