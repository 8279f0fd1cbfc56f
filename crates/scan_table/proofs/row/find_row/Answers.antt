use Rattle.scan_table.proofs.Rising.{rising-pairs}
use Rattle.scan_table.proofs.Rows.{row-here, row-not-here}
use Rattle.scan_table.proofs.row.find_row.Goals as goal

pub returns-in-Some : goal.returns-in-Some
returns-in-Some g c =
    row-here c.args.rows.now c.args.name.now c.in-Some.place c.index-rows-place.result
    (rising-pairs c.args.rows.now c.requires) c.in-Some.ensures c.index-rows-place.is

pub returns-in-None : goal.returns-in-None
returns-in-None g c = row-not-here c.args.rows.now c.args.name.now c.in-None.ensures
