use Rattle.svscan_rounds.proofs.Needless.{needs-no-other}
use Rattle.svscan_rounds.proofs.needed.others_need_no_row.Goals as goal

pub returns : goal.returns
returns c = needs-no-other c.args.table.now c.whole_need_no_row.ensures
