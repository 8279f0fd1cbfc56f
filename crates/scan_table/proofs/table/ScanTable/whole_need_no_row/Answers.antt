use Rattle.std.proofs.Common.{subst}
use Rattle.scan_table.specs.Whole.{WholeNeedNoRow}
use Rattle.scan_table.specs.Table.{TableState}
use Rattle.scan_table.proofs.Searched.{slots-distinct}
use Rattle.scan_table.proofs.Whole.{same-scan}
use Rattle.scan_table.proofs.table.ScanTable.whole_need_no_row.Goals as goal

pub returns : goal.returns
returns g c =
    subst (λ (table : TableState). WholeNeedNoRow table) c.self.view_is
    (same-scan c.self.inside.slots.items c.self.inside.next
    (slots-distinct c.self.inside.slots.items c.self.inside.index.items c.self.invariant.indexed
    c.self.invariant.whole))
