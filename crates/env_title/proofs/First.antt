-- A search for a byte finds the first such byte.
use Rattle.std.proofs.Common.{◌≡◌, ℕ, zero, suc, ◌<◌, ◌==◌, List, [], ◌∷◌, ◌++◌, length, take, drop, refl, sym, ◌∙◌, ap}
use Rattle.std.proofs.Common.{arith}
use Rattle.std.specs.Prelude.{Option, Some, None, unwrap_or}
use Rattle.std.specs.List.{position_or_len, before_first}
use Rattle.std.proofs.lemmas.Bool.{false_from_ne_true}
use Rattle.memchr.specs.Find.{IsFirstByte, Nowhere, Passes, is_byte}
use Rattle.env_title.specs.Title.{without_nul}

first-none : (c : ℕ) (text : List ℕ) → Nowhere (Passes (is_byte c) text) 0 (length text)
    → position_or_len (λ byte. byte == c) text ≡ length text
first-none c [] none = refl
first-none c (x ∷ text) none =
    let later = first-none c text (λ k low high. none (suc k) (omega arith) (omega arith)) in
    rw (false_from_ne_true (x == c) (none 0 (omega arith) (omega arith))) (omega arith)

first-some : (c : ℕ) (text : List ℕ) (k : ℕ) → k < length text → Passes (is_byte c) text k
    → Nowhere (Passes (is_byte c) text) 0 k → position_or_len (λ byte. byte == c) text ≡ k
first-some c [] k within is none = absurd (omega arith)
first-some c (x ∷ text) zero within is none = rw is refl
first-some c (x ∷ text) (suc k) within is none =
    let later = first-some c text k (omega arith) is (λ j low high. none (suc j) (omega arith) (omega arith)) in
    rw (false_from_ne_true (x == c) (none 0 (omega arith) (omega arith))) (omega arith)

-- the place that the code takes as the end
pub end_is : (c : ℕ) (text : List ℕ) (r : Option ℕ) (end : ℕ) → IsFirstByte (is_byte c) text r
    → end ≡ unwrap_or r (length text)
    → take end text ≡ before_first (λ byte. byte == c) text
end_is c text None end none is = ap (λ n. take n text) (is ∙ sym (first-none c text none))
end_is c text (Some k) end found is = let high = found.0.high in
    ap (λ n. take n text) (is ∙ sym (first-some c text k high found.1 found.0.before))

pub nul-none : (text : List ℕ) → Nowhere (Passes (is_byte 0) text) 0 (length text) → without_nul text ≡ text
nul-none [] none = refl
nul-none (x ∷ text) none =
    rw (false_from_ne_true (x == 0) (none 0 (omega arith) (omega arith)))
    (ap (λ (t : List ℕ). x ∷ t) (nul-none text (λ k low high. none (suc k) (omega arith) (omega arith))))

pub nul-some : (text : List ℕ) (k : ℕ) → k < length text → Passes (is_byte 0) text k
    → Nowhere (Passes (is_byte 0) text) 0 k → without_nul text ≡ take k text ++ without_nul (drop (suc k) text)
nul-some [] k within is none = absurd (omega arith)
nul-some (x ∷ text) zero within is none = rw is refl
nul-some (x ∷ text) (suc k) within is none =
    rw (false_from_ne_true (x == 0) (none 0 (omega arith) (omega arith)))
    (ap (λ (t : List ℕ). x ∷ t)
    (nul-some text k (omega arith) is (λ j low high. none (suc j) (omega arith) (omega arith))))
