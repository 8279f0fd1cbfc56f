use Rattle.std.proofs.Common.{Option, ℕ, List, Bor, sym, ap, ◌∙◌}
use Rattle.std.specs.Option.{option_copied}
use Rattle.sup_core.specs.Fields.{fields_after}
use Rattle.suite_lines.proofs.RowTexts.{right_further, rows_further}
use Rattle.suite_lines.proofs.reading.own_rows.Goals as goal

pub loop-left-preserved : goal.loop-left-preserved
loop-left-preserved g c =
    let left = ap (λ (o : Option (Bor (List ℕ))). fields_after (option_copied o)) c.in-Some.is
    ∙ c.split_field.ensures in
    let read = sym c.read_row.ensures ∙ c.unwrap-row.ensures in
    record {
      right = right_further _ _ _ c.unwrap-row.result left read c.loop-left.invariant.right;
      rows = rows_further _ _ _ c.unwrap-row.result c.in_ok-own_row.field-0 c.loop-left.rows.items _ _ left read
          c.in_ok-own_row.ensures c.in_ok-push.ensures.items c.loop-left.invariant.rows;
    }
