-- The parts of a list without c, of a pattern without adjacent stars, and of a match.
use Rattle.std.proofs.Common.{◌≡◌, ℕ, ◌==◌, true, false, ◌&&◌, List, [], ◌∷◌, ◌++◌, refl, sym}
use Rattle.std.specs.List.{list_any}
use Rattle.std.proofs.lemmas.Bool.{eqb-true, or_parts, false≢true}
use Rattle.star_match.specs.Star.{star, is_star, IsWithout, Matches, byte_first, star_last, star_before}
use Rattle.star_match.specs.Star.{has_adjacent_stars}

pub without_parts : (c x : ℕ) (xs : List ℕ) → IsWithout c (x ∷ xs) → ((x == c) ≡ false) × IsWithout c xs
without_parts c x xs clean = or_parts (x == c) (list_any (λ byte. byte == c) xs) clean

pub without_cons : (c x : ℕ) (xs : List ℕ) → (x == c) ≡ false → IsWithout c xs → IsWithout c (x ∷ xs)
without_cons c x xs other clean = rw other clean

apart_parts : (x y : ℕ) (rest : List ℕ) → has_adjacent_stars (x ∷ y ∷ rest) ≡ false
    → ((is_star x && is_star y) ≡ false) × (has_adjacent_stars (y ∷ rest) ≡ false)
apart_parts x y rest apart = or_parts (is_star x && is_star y) (has_adjacent_stars (y ∷ rest)) apart

pub tail_is_apart : (x : ℕ) (rest : List ℕ) → has_adjacent_stars (x ∷ rest) ≡ false → has_adjacent_stars rest ≡ false
tail_is_apart x [] apart = refl
tail_is_apart x (y ∷ rest) apart = (apart_parts x y rest apart).1

-- the byte after a star is no star
pub next_is_plain : (c : ℕ) (rest : List ℕ) → has_adjacent_stars (star ∷ c ∷ rest) ≡ false → is_star c ≡ false
next_is_plain c rest apart = (apart_parts star c rest apart).0

pub byte_first_of : {byte : ℕ} {rest text : List ℕ} → Matches (byte ∷ rest) text → is_star byte ≡ false
    → (after : List ℕ) × (text ≡ byte ∷ after) × Matches rest after
byte_first_of (byte_first {text = after} other m) plain = (after, refl, m)
byte_first_of (star_last text) plain = absurd (false≢true (sym plain))
byte_first_of (star_before part clean m) plain = absurd (false≢true (sym plain))

pub star_before_of : {byte c : ℕ} {rest text : List ℕ} → Matches (byte ∷ c ∷ rest) text → is_star byte ≡ true
    → (part after : List ℕ) × IsWithout c part × (text ≡ part ++ after) × Matches (c ∷ rest) after
star_before_of (byte_first {byte} other m) is = absurd (other (eqb-true byte star is))
star_before_of (star_before {text = after} part clean m) is = (part, after, clean, refl, m)
