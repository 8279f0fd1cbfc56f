use Rattle.std.proofs.Common.{sym, subst}
use Rattle.std.specs.List.{AllPairs}
use Rattle.scan_table.specs.Index.{IsBefore}
use Rattle.scan_table.proofs.table.restart_in.Goals as goal

pub restart_all-requires : goal.restart_all-requires
restart_all-requires g c = subst (λ slots. AllPairs IsBefore slots) (sym c.deref_mut.ensures.value) c.requires
