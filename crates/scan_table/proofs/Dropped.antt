-- One more slot, dropped or kept.
use Rattle.std.proofs.Common.{◌≡◌, ℕ, ◌+◌, ◌<◌, true, false, List, [], ◌∷◌, ◌++◌, length, get_or, drop, sym, ap, ◌∙◌}
use Rattle.std.proofs.Common.{refl, arith, suc, append_assoc}
use Rattle.std.proofs.Math.Seq.{drop-cons}
use Rattle.scan_table.specs.Slots.{Row, SlotState}
use Rattle.scan_table.specs.Scan.{is_dropped, drops}

drops-cons : (slots : List SlotState) (rows : List Row) (i : ℕ) (slot : SlotState) → i < length slots
    → slot ≡ get_or slots i slot →
    drops (drop i slots) rows ≡ drops (slot ∷ drop (i + 1) slots) rows
drops-cons slots rows i slot within read =
    let e : suc i ≡ i + 1 = omega arith in
    ap (λ xs. drops xs rows) (drop-cons slots i slot within ∙ ap (λ x. x ∷ drop (suc i) slots) (sym read)
    ∙ ap (λ n. slot ∷ drop n slots) e)

pub dropped-next : (slots : List SlotState) (rows : List Row) (i : ℕ) (slot : SlotState)
    (numbers numbers' whole : List ℕ) → i < length slots → slot ≡ get_or slots i slot →
    is_dropped rows slot ≡ true → numbers' ≡ numbers ++ slot.number ∷ [] → numbers ++ drops (drop i slots) rows ≡ whole
    → numbers' ++ drops (drop (i + 1) slots) rows ≡ whole
dropped-next slots rows i slot numbers numbers' whole within read is more so =
    let here : drops (slot ∷ drop (i + 1) slots) rows ≡ slot.number ∷ drops (drop (i + 1) slots) rows = rw is refl in
    ap (λ xs. xs ++ drops (drop (i + 1) slots) rows) more
    ∙ append_assoc numbers (slot.number ∷ []) (drops (drop (i + 1) slots) rows) ∙
    ap (λ xs. numbers ++ xs) (sym (drops-cons slots rows i slot within read ∙ here)) ∙ so

pub kept-next : (slots : List SlotState) (rows : List Row) (i : ℕ) (slot : SlotState) (numbers numbers' whole : List ℕ)
    → i < length slots → slot ≡ get_or slots i slot →
    is_dropped rows slot ≡ false → numbers' ≡ numbers → numbers ++ drops (drop i slots) rows ≡ whole
    → numbers' ++ drops (drop (i + 1) slots) rows ≡ whole
kept-next slots rows i slot numbers numbers' whole within read is same so =
    let here : drops (slot ∷ drop (i + 1) slots) rows ≡ drops (drop (i + 1) slots) rows = rw is refl in
    ap (λ xs. xs ++ drops (drop (i + 1) slots) rows) same ∙
    ap (λ xs. numbers ++ xs) (sym (drops-cons slots rows i slot within read ∙ here)) ∙ so
