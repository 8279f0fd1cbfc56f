-- A scan to the first c finds the cut, if there is one.
use Rattle.std.proofs.Common.{◌≡◌, ℕ, ◌==◌, true, false, List, [], ◌∷◌, ◌++◌, refl, sym, subst, ap, ◌∙◌}
use Rattle.std.proofs.lemmas.Bool.{eq-eqb, ne_eqb, eqb-true, eqb-false, and_parts, false≢true}
use Rattle.star_match.specs.Star.{star, is_star, IsWithout, Matches, empty, byte_first, star_last, star_before}
use Rattle.star_match.specs.Star.{has_adjacent_stars, from_first, star_matches}
use Rattle.star_match.proofs.Stars.{without_parts, without_cons, tail_is_apart, next_is_plain}

from_first-append : (c : ℕ) (part text : List ℕ) → IsWithout c part → from_first c (part ++ text) ≡ from_first c text
from_first-append c [] text clean = refl
from_first-append c (x ∷ part) text clean =
    let parts = without_parts c x part clean in rw (parts.0) (from_first-append c part text parts.1)

from_first-cons : (c x : ℕ) (text : List ℕ) → (x == c) ≡ true → from_first c (x ∷ text) ≡ x ∷ text
from_first-cons c x text is = rw is refl

abbrev pub HasFront : ℕ → List ℕ → Type 0
HasFront c text = (front : List ℕ) × IsWithout c front × (text ≡ front ++ from_first c text)

-- the text before the first c
pub front_of : (c : ℕ) (text : List ℕ) → HasFront c text
front_of c [] = ([], refl, refl)
front_of c (x ∷ text) =
    elim (x == c) as (λ b. (x == c) ≡ b → HasFront c (x ∷ text)) [
      | true ↦ λ is. ([], refl, rw is refl)
      | false ↦ λ other.
          let later = front_of c text in
          (x ∷ later.0, without_cons c x later.0 other later.1, rw other (ap (λ (t : List ℕ). x ∷ t) later.2))
    ] refl

-- A text that a plain byte and a rest match begins with that byte.
pub begins : (byte : ℕ) (rest text : List ℕ) → is_star byte ≡ false → star_matches (byte ∷ rest) text ≡ true
    → (after : List ℕ) × (text ≡ byte ∷ after) × (star_matches rest after ≡ true)
begins byte rest [] other m = absurd (false≢true (rw (other, star_matches) at m))
begins byte rest (x ∷ after) other m =
    let both = and_parts (x == byte) (star_matches rest after) (rw (other, star_matches) at m) in
    (after, ap (λ (y : ℕ). y ∷ after) (eqb-true x byte both.0), both.1)

from_first-begun : (c : ℕ) (rest text : List ℕ) → is_star c ≡ false → star_matches (c ∷ rest) text ≡ true
    → from_first c text ≡ text
from_first-begun c rest text other m =
    let text_is = (begins c rest text other m).1 in
    rw text_is (from_first-cons c c _ (eq-eqb c c refl))

-- If the pattern matches, the computed result is true.
pub computes : (pattern text : List ℕ) → Matches pattern text → has_adjacent_stars pattern ≡ false
    → star_matches pattern text ≡ true
computes pattern text empty apart = refl
computes pattern text (byte_first {byte} {rest} {text = after} other m) apart =
    rw (
      ne_eqb byte star other,
      star_matches,
    ) (rw (eq-eqb byte byte refl) (computes rest after m (tail_is_apart byte rest apart)))
computes pattern text (star_last _) apart = refl
computes pattern text (star_before {c} {rest} {text = after} part clean m) apart =
    let later = computes (c ∷ rest) after m (tail_is_apart star (c ∷ rest) apart) in
    let same = from_first-append c part after clean
    ∙ from_first-begun c rest after (next_is_plain c rest apart) later in
    subst (λ (t : List ℕ). star_matches (c ∷ rest) t ≡ true) (sym same) later

-- If the computed result is true, the pattern matches.
abbrev Finds : List ℕ → Type 0
Finds pattern = (text : List ℕ) → star_matches pattern text ≡ true → Matches pattern text

finds_nothing : Finds []
finds_nothing [] m = empty
finds_nothing (x ∷ text) m = absurd (false≢true m)

finds_after_star : (rest : List ℕ) → Finds rest → Finds (star ∷ rest)
finds_after_star [] found text m = star_last text
finds_after_star (c ∷ rest) found text m =
    let front = front_of c text in
    subst (λ (t : List ℕ). Matches (star ∷ c ∷ rest) t) (sym front.2)
    (star_before front.0 front.1 (found (from_first c text) m))

finds_after_byte : (byte : ℕ) (rest : List ℕ) → is_star byte ≡ false → Finds rest → Finds (byte ∷ rest)
finds_after_byte byte rest other found text m =
    let start = begins byte rest text other m in
    subst (λ (t : List ℕ). Matches (byte ∷ rest) t) (sym start.1)
    (byte_first (eqb-false byte star other) (found start.0 start.2))

pub finds : (pattern text : List ℕ) → star_matches pattern text ≡ true → Matches pattern text
finds [] = finds_nothing
finds (byte ∷ rest) =
    elim (is_star byte) as (λ b. is_star byte ≡ b → Finds (byte ∷ rest)) [
      | true ↦ λ e. subst (λ (x : ℕ). Finds (x ∷ rest)) (sym (eqb-true byte star e))
          (finds_after_star rest (finds rest))
      | false ↦ λ e. finds_after_byte byte rest e (finds rest)
    ] refl
