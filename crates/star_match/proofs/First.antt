-- A search for a byte finds the text from the first such byte on.
use Rattle.std.proofs.Common.{◌≡◌, ℕ, zero, suc, ◌-◌, ◌<◌, ◌==◌, Bool, true, false, List, [], ◌∷◌, length, take, drop}
use Rattle.std.proofs.Common.{refl, sym, ◌∙◌, arith}
use Rattle.std.specs.Prelude.{Option, Some, None, unwrap_or}
use Rattle.std.proofs.lemmas.List.{take_rest}
use Rattle.std.proofs.Math.Seq.{drop-length}
use Rattle.memchr.specs.Find.{IsFirstByte, Nowhere, Passes, is_byte}
use Rattle.star_match.specs.Star.{from_first}

not_true : (b : Bool) → ¬ (b ≡ true) → b ≡ false
not_true true refused = absurd (refused refl)
not_true false refused = refl

from_first-none : (c : ℕ) (text : List ℕ) → Nowhere (Passes (is_byte c) text) 0 (length text) → from_first c text ≡ []
from_first-none c [] none = refl
from_first-none c (x ∷ text) none =
    rw (not_true (x == c) (none 0 (omega arith) (omega arith)))
    (from_first-none c text (λ k low high. none (suc k) (omega arith) (omega arith)))

from_first-some : (c : ℕ) (text : List ℕ) (k : ℕ) → k < length text → Passes (is_byte c) text k
    → Nowhere (Passes (is_byte c) text) 0 k → drop k text ≡ from_first c text
from_first-some c [] k within is none = absurd (omega arith)
from_first-some c (x ∷ text) zero within is none = rw is refl
from_first-some c (x ∷ text) (suc k) within is none =
    rw (not_true (x == c) (none 0 (omega arith) (omega arith)))
    (from_first-some c text k (omega arith) is (λ j low high. none (suc j) (omega arith) (omega arith)))

from_place : (c : ℕ) (text : List ℕ) (r : Option ℕ) → IsFirstByte (is_byte c) text r
    → drop (unwrap_or r (length text)) text ≡ from_first c text
from_place c text None none = drop-length text ∙ sym (from_first-none c text none)
from_place c text (Some k) found = let high = found.0.high in from_first-some c text k high found.1 found.0.before

-- the same, as the code cuts the text
pub cut_at : (c : ℕ) (text : List ℕ) (r : Option ℕ) (at : ℕ) → IsFirstByte (is_byte c) text r
    → at ≡ unwrap_or r (length text)
    → take (length text - at) (drop at text) ≡ from_first c text
cut_at c text r at found is = take_rest text at ∙ rw is (from_place c text r found)
