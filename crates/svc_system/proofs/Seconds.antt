-- A number has no newline.
use Rattle.std.proofs.Common.{◌≡◌, ℕ, ◌==◌, Bool, true, false, List, [], ◌∷◌, ◌++◌, refl, decimal, codes}
use native.Mathlib.Omega.{arith}
use Rattle.std.proofs.Common.{sym, ◌∙◌, inl, inr}
use Rattle.std.proofs.lemmas.List.{append_cancel_right}
use Rattle.svc_system.specs.Settings.{IsSeconds}
use Rattle.sup_core.proofs.Lines.{avoids, avoids-solid, decimal-solid}

ends : (front : List ℕ) → avoids 10 (front ++ 10 ∷ []) ≡ false
ends [] = refl
ends (x ∷ xs) = grind (arith, ends xs)

-- A number has no newline at its end.
pub no_newline : (number : ℕ) (front : List ℕ) → decimal number ≡ front ++ codes "\n" → ⊥
no_newline number front is =
    let free = avoids-solid 10 (decimal number) (omega arith) (decimal-solid number) in
    let stop = ends front in
    grind (arith, is, free, stop)

-- The number before a newline at the end.
pub digits_before : (number : ℕ) (front text : List ℕ) → text ≡ front ++ 10 ∷ [] → IsSeconds number text
    → front ≡ decimal number
digits_before number front text is (inl bare) = absurd (no_newline number front (sym bare ∙ is))
digits_before number front text is (inr ended) = append_cancel_right front (decimal number) (10 ∷ []) (sym is ∙ ended)
