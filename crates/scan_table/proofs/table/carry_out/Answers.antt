use Rattle.std.proofs.Common.{◌≡◌, ◌++◌, ◌∙◌, length, map, sym, subst, ap, arith}
use Rattle.std.specs.List.{AllPairs}
use Rattle.scan_table.specs.Scan.{kept}
use Rattle.scan_table.specs.Table.{renewed}
use Rattle.scan_table.specs.Index.{IsBefore, AreDistinct}
use Rattle.scan_table.proofs.After.{length-after}
use Rattle.scan_table.proofs.table.carry_out.Goals as goal

pub change-requires-clause-rising : goal.change-requires-clause-rising
change-requires-clause-rising g c =
    subst (λ slots. AllPairs IsBefore slots) (sym c.in_ok-reserve.ensures.slots) c.requires.rising

pub index_all-requires-clause-room : goal.index_all-requires-clause-room
index_all-requires-clause-room g c =
    let after : c.deref.result.now ≡ map (renewed c.args.restarts.now) (kept c.args.slots.now.items c.args.rows.now)
    ++ c.args.new.items =
    c.deref.ensures.value ∙ c.change.ensures ∙
    ap (λ slots. map (renewed c.args.restarts.now) (kept slots c.args.rows.now) ++ c.args.new.items)
    c.in_ok-reserve.ensures.slots in
    let fits = length-after c.args.slots.now.items c.args.rows.now c.args.restarts.now c.args.new.items in
    omega (
      arith,
      ap length after,
      fits,
      c.in_ok-reserve.ensures.index_room,
      c.len.ensures,
      c.args.new.ok.0,
      c.reserve.new.index.ok.0,
      ap length c.in_ok-reserve.ensures.index,
      c.requires.whole,
    )

pub index_all-requires-clause-distinct : goal.index_all-requires-clause-distinct
index_all-requires-clause-distinct g c =
    let after : c.deref.result.now ≡ map (renewed c.args.restarts.now) (kept c.args.slots.now.items c.args.rows.now)
    ++ c.args.new.items =
    c.deref.ensures.value ∙ c.change.ensures ∙
    ap (λ slots. map (renewed c.args.restarts.now) (kept slots c.args.rows.now) ++ c.args.new.items)
    c.in_ok-reserve.ensures.slots in
    subst (λ slots. AreDistinct slots) (sym after) c.requires.distinct
