use Rattle.std.proofs.Common.{sym, subst}
use Rattle.std.specs.List.{AllPairs}
use Rattle.scan_table.specs.Index.{IsBefore}
use Rattle.scan_table.proofs.table.end_in.Goals as goal

pub end_part-requires : goal.end_part-requires
end_part-requires g c = subst (λ slots. AllPairs IsBefore slots) (sym c.deref_mut.ensures.value) c.requires
