use Rattle.std.proofs.Common.{sym, subst}
use Rattle.std.specs.List.{AllPairs}
use Rattle.scan_table.specs.Index.{IsBefore}
use Rattle.scan_table.proofs.table.ScanTable.name.Goals as goal

pub slot_at-requires : goal.slot_at-requires
slot_at-requires g c = subst (λ slots. AllPairs IsBefore slots) (sym c.deref.ensures.value) c.self.invariant.rising
