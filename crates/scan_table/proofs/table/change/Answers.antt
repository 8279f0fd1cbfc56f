use Rattle.std.proofs.Common.{sym, subst, not}
use Rattle.std.specs.List.{AllPairs}
use Rattle.std.proofs.lemmas.List.Kept.{AllPairs-filter}
use Rattle.scan_table.specs.Scan.{is_dropped}
use Rattle.scan_table.specs.Index.{IsBefore}
use Rattle.scan_table.proofs.table.change.Goals as goal

pub restart_in-requires : goal.restart_in-requires
restart_in-requires g c =
    subst (λ slots. AllPairs IsBefore slots) (sym c.keep.ensures.items)
    (AllPairs-filter IsBefore (λ slot. not (is_dropped c.args.rows.now slot)) c.args.slots.now.items c.requires.rising)
