-- A match as a cut of the text into parts, one for each byte of the pattern.
use Rattle.std.proofs.Common.{◌≡◌, ℕ, true, false, List, [], ◌∷◌, ◌++◌, refl, sym, subst, ap, ◌∙◌}
use Rattle.std.specs.List.{concat}
use Rattle.std.proofs.lemmas.Bool.{eq-eqb, ne_eqb, eqb-true, eqb-false, false≢true}
use Rattle.std.proofs.lemmas.List.{append-nil}
use Rattle.star_match.specs.Star.{star, is_star, IsWithout, Matches, empty, byte_first, star_last, star_before}
use Rattle.star_match.specs.Star.{has_adjacent_stars}
use Rattle.star_match.specs.Laws.{TakeParts}
use Rattle.star_match.proofs.Stars.{without_parts, tail_is_apart, next_is_plain}

-- A match is a cut.
pub cut_of : {pattern text : List ℕ} → Matches pattern text → (parts : List (List ℕ)) × TakeParts pattern parts
    × (text ≡ concat parts)
cut_of empty = ([], tt, refl)
cut_of (byte_first {byte} other m) =
    let rest = cut_of m in
    ((byte ∷ []) ∷ rest.0, (rw (ne_eqb byte star other) refl, rest.1), ap (λ (t : List ℕ). byte ∷ t) rest.2)
cut_of (star_last text) = (text ∷ [], (tt, tt), sym (append-nil text))
cut_of (star_before part clean m) =
    let rest = cut_of m in (part ∷ rest.0, (clean, rest.1), ap (λ (t : List ℕ). part ++ t) rest.2)

-- Parts that are taken are, when joined, a text that matches.
abbrev Joins : List ℕ → Type 0
Joins pattern = (parts : List (List ℕ)) → TakeParts pattern parts → Matches pattern (concat parts)

joins_nothing : Joins []
joins_nothing [] are = empty
joins_nothing (part ∷ parts) are = absurd are

joins_after_star : (rest : List ℕ) → Joins rest → Joins (star ∷ rest)
joins_after_star rest joined [] are = absurd are
joins_after_star [] joined (part ∷ parts) are = star_last (concat (part ∷ parts))
joins_after_star (c ∷ rest) joined (part ∷ parts) are = star_before part are.0 (joined parts are.1)

joins_after_byte : (byte : ℕ) (rest : List ℕ) → is_star byte ≡ false → Joins rest → Joins (byte ∷ rest)
joins_after_byte byte rest other joined [] are = absurd are
joins_after_byte byte rest other joined (part ∷ parts) are =
    let own : part ≡ byte ∷ [] = rw other at are.0 in
    rw own (byte_first (eqb-false byte star other) (joined parts are.1))

pub joins : (pattern : List ℕ) → Joins pattern
joins [] = joins_nothing
joins (byte ∷ rest) =
    elim (is_star byte) as (λ b. is_star byte ≡ b → Joins (byte ∷ rest)) [
      | true ↦ λ e. subst (λ (x : ℕ). Joins (x ∷ rest)) (sym (eqb-true byte star e))
          (joins_after_star rest (joins rest))
      | false ↦ λ e. joins_after_byte byte rest e (joins rest)
    ] refl

-- If two prefixes without c are each followed by a c, neither is longer.
same_front : (c : ℕ) (xs ys after later : List ℕ) → IsWithout c xs → IsWithout c ys
    → xs ++ c ∷ after ≡ ys ++ c ∷ later → (xs ≡ ys) × (after ≡ later)
same_front c [] [] after later p q e = (refl, cc)
same_front c [] (y ∷ ys) after later p q e =
    let same : c ≡ y = cc in absurd (false≢true (sym (without_parts c y ys q).0 ∙ eq-eqb y c (sym same)))
same_front c (x ∷ xs) [] after later p q e =
    let same : x ≡ c = cc in absurd (false≢true (sym (without_parts c x xs p).0 ∙ eq-eqb x c same))
same_front c (x ∷ xs) (y ∷ ys) after later p q e =
    let rest : xs ++ c ∷ after ≡ ys ++ c ∷ later = cc in
    let both = same_front c xs ys after later (without_parts c x xs p).1 (without_parts c y ys q).1 rest in
    let head : x ≡ y = cc in
    let tail = both.0 in (cc, both.1)

-- A text has at most one cut by this pattern.
abbrev HasOne : List ℕ → Type 0
HasOne pattern = (parts others : List (List ℕ)) → TakeParts pattern parts → TakeParts pattern others
    → concat parts ≡ concat others → parts ≡ others

one_of_nothing : HasOne []
one_of_nothing [] [] are also e = refl
one_of_nothing [] (other ∷ others) are also e = absurd also
one_of_nothing (part ∷ parts) others are also e = absurd are

one_after_byte : (byte : ℕ) (rest : List ℕ) → is_star byte ≡ false → HasOne rest → HasOne (byte ∷ rest)
one_after_byte byte rest other one [] others are also e = absurd are
one_after_byte byte rest other one (part ∷ parts) [] are also e = absurd also
one_after_byte byte rest other one (part ∷ parts) (part' ∷ others) are also e =
    let own : part ≡ byte ∷ [] = rw other at are.0 in
    let own' : part' ≡ byte ∷ [] = rw other at also.0 in
    let same : byte ∷ concat parts ≡ byte ∷ concat others = rw (own, own') at e in
    let tail : concat parts ≡ concat others = cc in
    let rest_same = one parts others are.1 also.1 tail in cc

one_after_star : (rest : List ℕ) → has_adjacent_stars (star ∷ rest) ≡ false → HasOne rest → HasOne (star ∷ rest)
one_after_star rest apart one [] others are also e = absurd are
one_after_star rest apart one (part ∷ parts) [] are also e = absurd also
one_after_star [] apart one (part ∷ []) (part' ∷ []) are also e =
    let same = sym (append-nil part) ∙ e ∙ append-nil part' in cc
one_after_star [] apart one (part ∷ p ∷ parts) (part' ∷ others) are also e = absurd are.1
one_after_star [] apart one (part ∷ parts) (part' ∷ p ∷ others) are also e = absurd also.1
one_after_star (c ∷ rest) apart one (part ∷ []) (part' ∷ others) are also e = absurd are.1
one_after_star (c ∷ rest) apart one (part ∷ p ∷ parts) (part' ∷ []) are also e = absurd also.1
one_after_star (c ∷ rest) apart one (part ∷ p ∷ parts) (part' ∷ q ∷ others) are also e =
    let plain = next_is_plain c rest apart in
    let p_is : p ≡ c ∷ [] = rw plain at are.1.0 in
    let q_is : q ≡ c ∷ [] = rw plain at also.1.0 in
    let cut : part ++ c ∷ concat parts ≡ part' ++ c ∷ concat others = rw (p_is, q_is) at e in
    let both = same_front c part part' (concat parts) (concat others) are.0 also.0 cut in
    let first = both.0 in
    let later : concat (p ∷ parts) ≡ concat (q ∷ others) = rw (p_is, q_is, both.1) refl in
    let rest_same = one (p ∷ parts) (q ∷ others) are.1 also.1 later in cc

pub one_cut : (pattern : List ℕ) → has_adjacent_stars pattern ≡ false → HasOne pattern
one_cut [] apart = one_of_nothing
one_cut (byte ∷ rest) apart =
    let one = one_cut rest (tail_is_apart byte rest apart) in
    elim (is_star byte) as (λ b. is_star byte ≡ b → HasOne (byte ∷ rest)) [
      | true ↦ λ e.
          let same = eqb-true byte star e in
          subst (λ (x : ℕ). HasOne (x ∷ rest)) (sym same)
          (one_after_star rest (subst (λ (x : ℕ). has_adjacent_stars (x ∷ rest) ≡ false) same apart) one)
      | false ↦ λ e. one_after_byte byte rest e one
    ] refl
