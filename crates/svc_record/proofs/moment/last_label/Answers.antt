use Rattle.std.proofs.Common.{◌≡◌, List, ℕ, [], ◌∷◌, ◌++◌, Some, sym, ◌∙◌}
use Rattle.std.proofs.lemmas.List.{append_cancel_right}
use Rattle.tai_status.specs.Label.{label_text}
use Rattle.svc_record.proofs.Moments.{label_length}
use Rattle.svc_record.proofs.moment.last_label.Goals as goal

pub returns-in_err-last_bytes-clause-only : goal.returns-in_err-last_bytes-clause-only
returns-in_err-last_bytes-clause-only c = λ label so front is.
    let text = c.in_ok-before_newline.field-0.now in
    let same = append_cancel_right text (front ++ label_text label) (10 ∷ [])
    (sym c.in_ok-before_newline.ensures.some ∙ is) in
    let found = c.in_err-last_bytes.ensures.only front (label_text label) (label_length label) same in
    absurd (cc found)

pub returns-clause-only : goal.returns-clause-only
returns-clause-only c = λ label so front is.
    let text = c.in_ok-before_newline.field-0.now in
    let same = append_cancel_right text (front ++ label_text label) (10 ∷ [])
    (sym c.in_ok-before_newline.ensures.some ∙ is) in
    let found = c.in_ok-last_bytes.ensures.only front (label_text label) (label_length label) same in
    let last : c.in_ok-last_bytes.field-0.now ≡ label_text label = cc found in
    c.read_label.ensures.only label so last
