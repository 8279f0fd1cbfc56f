use Rattle.svscan_rounds.specs.Rounds.{lines_of_shortage, lines_of_unnamed}
use Rattle.svscan_rounds.proofs.Reporting.{reports-then}
use Rattle.svscan_rounds.proofs.rounds.report_listing.Goals as goal

pub returns : goal.returns
returns g c =
    reports-then (lines_of_unnamed c.args.unnamed) (lines_of_shortage c.args.shortage) c.args.faults.now
    c.report_unnamed.new.faults c.report_shortage.new.faults c.report_unnamed.ensures c.report_shortage.ensures
