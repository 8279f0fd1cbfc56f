use Rattle.std.proofs.Common.{map, take}
use Rattle.svscan_rounds.specs.Rounds.{untaken_report, ReportsAll}
use Rattle.svscan_rounds.proofs.rounds.report_untaken.Given as goal

-- the parts so far are reported
abbrev pub invariant-loop-untaken : goal.invariant-loop-untaken
invariant-loop-untaken g l = ReportsAll (map untaken_report (take l.untaken-index l.all)) l.fn.faults l.faults
