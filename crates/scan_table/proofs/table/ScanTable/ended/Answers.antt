use Rattle.std.proofs.Common.{sym, subst}
use Rattle.scan_table.specs.Index.{IsTable}
use Rattle.scan_table.proofs.After.{table-ended}
use Rattle.scan_table.proofs.table.ScanTable.ended.Goals as goal

pub end_in-requires : goal.end_in-requires
end_in-requires g c = c.self.invariant.rising

pub invariant_of-self : goal.invariant_of-self
invariant_of-self g c =
    subst (λ slots. IsTable slots c.self.inside.next c.self.inside.index.items) (sym c.end_in.ensures.slots)
    (table-ended c.self.inside.slots.items c.self.inside.next c.self.inside.index.items c.args.part c.self.invariant)
