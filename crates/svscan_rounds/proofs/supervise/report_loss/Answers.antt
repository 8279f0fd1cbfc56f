use Rattle.svscan_rounds.specs.Supervise.{lines_of_trace, lines_of_untaken}
use Rattle.svscan_rounds.proofs.Reporting.{reports-then}
use Rattle.svscan_rounds.proofs.supervise.report_loss.Goals as goal

pub returns : goal.returns
returns g c =
    let folder = c.args.folder.now in
    let loss = c.args.loss in
    reports-then (lines_of_untaken folder loss.untaken) (lines_of_trace folder loss.lacks_trace) c.args.faults.now
    c.report_untaken.new.faults c.report_trace.new.faults c.report_untaken.ensures c.report_trace.ensures
