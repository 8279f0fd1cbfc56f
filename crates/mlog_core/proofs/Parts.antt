-- The first line of some bytes.
use Rattle.std.proofs.Common.{◌≡◌, ℕ, zero, suc, ◌+◌, ◌<◌, ◌≤◌, ◌==◌, Bool, true, false, List, [], ◌∷◌, ◌++◌, length}
use Rattle.std.proofs.Common.{take, drop, get_or, refl, ap, arith, add-one}
use Rattle.tai_status.specs.LineReader.{IsPlain}
use Rattle.memchr.specs.Find.{NoneBefore, Nowhere, Passes, is_byte}

not_true : (b : Bool) → ¬ (b ≡ true) → b ≡ false
not_true true no_way = absurd (no_way refl)
not_true false no_way = refl

pub plain_before : (xs : List ℕ) (k : ℕ) → k ≤ length xs → ((j : ℕ) → j < k → ¬ ((get_or xs j 0 == 10) ≡ true))
    → IsPlain (take k xs)
plain_before xs zero within none = refl
plain_before [] (suc k) within none = refl
plain_before (x ∷ xs) (suc k) within none =
    let apart : (x == 10) ≡ false = not_true (x == 10) (none 0 (omega arith)) in
    rw apart (plain_before xs k (omega (arith, within)) (λ j low. none (suc j) (omega (arith, low))))

pub cut_at : (xs : List ℕ) (k : ℕ) → k < length xs → (get_or xs k 0 == 10) ≡ true
    → xs ≡ take k xs ++ 10 ∷ drop (k + 1) xs
cut_at [] k within is = absurd (omega (arith, within))
cut_at (x ∷ xs) zero within is = let ten : x ≡ 10 = grind (arith, is) in ap (λ (b : ℕ). b ∷ xs) ten
cut_at (x ∷ xs) (suc k) within is =
    rw add-one (ap (λ (t : List ℕ). x ∷ t) (let e = cut_at xs k (omega (arith, within)) is in rw add-one at e))

pub found_part : (xs : List ℕ) (k : ℕ) → NoneBefore (Passes (is_byte 10) xs) 0 (length xs) k → Passes (is_byte 10) xs k
    → IsPlain (take k xs) × (xs ≡ take k xs ++ 10 ∷ drop (k + 1) xs)
found_part xs k first is = (
  plain_before xs k (let h = first.high in omega (arith, h)) (λ j low. first.before j (omega arith) low),
  cut_at xs k first.high is,
)

pub whole_part : (xs : List ℕ) → Nowhere (Passes (is_byte 10) xs) 0 (length xs) → IsPlain (take (length xs) xs)
whole_part xs none = plain_before xs (length xs) (omega arith) (λ j low. none j (omega arith) low)
