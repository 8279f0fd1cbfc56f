use Rattle.std.proofs.Common.{map, take}
use Rattle.svscan_rounds.specs.Rounds.{remaining_report, ReportsAll}
use Rattle.svscan_rounds.proofs.rounds.report_remaining.Given as goal

-- the processes so far are reported
abbrev pub invariant-loop-remaining : goal.invariant-loop-remaining
invariant-loop-remaining g l = ReportsAll (map remaining_report (take l.remaining-index l.all)) l.fn.faults l.faults
