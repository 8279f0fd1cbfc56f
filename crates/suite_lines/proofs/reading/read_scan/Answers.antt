use Rattle.std.proofs.Common.{Option, ℕ, List, Bor, Err, ap, sym, ◌∙◌}
use Rattle.std.proofs.lemmas.Result.{err_from_is_err_and}
use Rattle.std.specs.Option.{option_copied}
use Rattle.sup_core.specs.Fields.{fields_after}
use Rattle.suite_lines.proofs.EventTexts.{IsRead-unread}
use Rattle.suite_lines.proofs.reading.read_scan.Goals as goal

pub returns-in_err-own_rows : goal.returns-in_err-own_rows
returns-in_err-own_rows g c =
    let passed = err_from_is_err_and c.from_residual-in_err-own_rows.result c.from_residual-in_err-own_rows.ensures.1 in
    let left = ap (λ (o : Option (Bor (List ℕ))). fields_after (option_copied o)) c.in_ok-ok_or.ensures.ok_part in
    IsRead-unread _ _ _ c.in_ok-label.label c.from_residual-in_err-own_rows.result (left ∙ c.split_field.ensures)
    (sym c.read_label.ensures.exact ∙ c.in_ok-label.ensures.ok_part) (sym c.if-not-are_rows.ensures) (passed.1
    ∙ ap Err passed.2)
