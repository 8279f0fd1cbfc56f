use Rattle.std.proofs.Common.{Option, ℕ, List, Bor, Err, ◌∷◌, ap, ◌∙◌}
use Rattle.std.proofs.lemmas.Result.{err_from_is_err_and}
use Rattle.std.specs.Option.{option_copied}
use Rattle.sup_core.specs.Fields.{fields_after}
use Rattle.suite_lines.proofs.EventTexts.{IsRead-refused, part_refused, event_refused}
use Rattle.suite_lines.proofs.reading.read_at.Goals as goal

pub returns-in_err-part : goal.returns-in_err-part
returns-in_err-part g c =
    let passed = err_from_is_err_and c.from_residual-in_err-part.result c.from_residual-in_err-part.ensures.1 in
    let left = ap (λ (o : Option (Bor (List ℕ))). fields_after (option_copied o)) c.in_ok-ok_or.ensures.ok_part
    ∙ c.split_field.ensures in
    let line = ap (λ (o : Option (Bor (List ℕ))). c.split_field.result.0.now ∷ fields_after (option_copied o))
    c.in_ok-line.ensures.ok_part in
    IsRead-refused _ c.from_residual-in_err-part.result c.in_err-part.field-0.0
    (part_refused _ c.split_field.result.0.now c.in_ok-line.line.now _ (left ∙ line) c.in_err-part.ensures) (passed.1
    ∙ ap Err passed.2)

pub returns-in_err-event : goal.returns-in_err-event
returns-in_err-event g c =
    let passed = err_from_is_err_and c.from_residual-in_err-event.result c.from_residual-in_err-event.ensures.1 in
    let left = ap (λ (o : Option (Bor (List ℕ))). fields_after (option_copied o)) c.in_ok-ok_or.ensures.ok_part
    ∙ c.split_field.ensures in
    let line = ap (λ (o : Option (Bor (List ℕ))). c.split_field.result.0.now ∷ fields_after (option_copied o))
    c.in_ok-line.ensures.ok_part in
    IsRead-refused _ c.from_residual-in_err-event.result c.in_err-event.field-0.0
    (event_refused _ c.split_field.result.0.now c.in_ok-line.line.now c.in_ok-part.part _ (left
    ∙ line) c.in_ok-part.ensures c.in_err-event.ensures.exact)
    (passed.1 ∙ ap Err passed.2)
