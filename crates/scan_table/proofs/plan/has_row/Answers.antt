use Rattle.std.proofs.Common.{subst}
use Rattle.scan_table.specs.Order.{IsRowAt, HasNoRow}
use Rattle.scan_table.proofs.Rows.{row-found, row-missing}
use Rattle.scan_table.proofs.plan.has_row.Goals as goal

pub returns-in-Some : goal.returns-in-Some
returns-in-Some g c =
    let at = subst (λ name. IsRowAt c.args.rows.now name c.in-Some.place) c.name.ensures c.in-Some.ensures in
    row-found c.args.rows.now c.in-Some.place c.index-rows-place.result c.args.slot.now c.is_eligible.result c.requires
    at.within c.index-rows-place.is at.here c.is_eligible.ensures

pub returns-in-None : goal.returns-in-None
returns-in-None g c =
    row-missing c.args.rows.now c.args.slot.now
    (subst (λ name. HasNoRow c.args.rows.now name) c.name.ensures c.in-None.ensures)
