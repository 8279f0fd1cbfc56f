-- Pairs of adjacent bytes, and the table in which a text's pairs are noted.
use Rattle.std.specs.Prelude.{◌≡◌, ℕ, ◌+◌, ◌*◌, ◌%◌, ◌≤◌, ◌==◌, ◌⊎◌, Bool, true, false, ◌&&◌, ◌||◌, List, [], ◌∷◌, length}
use Rattle.std.specs.Prelude.{slice_get, Some}
use Rattle.star_match.specs.Star.{is_star}
use Rattle.star_match.specs.declared.pairs.TheConstants.{NO_PAIR}
use Rattle.star_match.specs.declared.pairs.Needs.{Needs}

-- whether bytes have a, with b directly after it
abbrev pub has_pair : ℕ → ℕ → List ℕ → Bool
has_pair a b [] = false
has_pair a b (x ∷ []) = false
has_pair a b (x ∷ y ∷ rest) = ((x == a) && (y == b)) || has_pair a b (y ∷ rest)

-- a pair's place in a table
abbrev pub pair_place : ℕ → ℕ → ℕ
pair_place a b = (a * 32 + b) % NO_PAIR

-- A table has the places of all pairs of a text, and the place of no pair.
pub record HasPlaces (places : List Bool) (text : List ℕ) : Type 0 where
  pub pairs : (a b : ℕ) → has_pair a b text ≡ true → slice_get places (pair_place a b) ≡ Some true
  pub no_pair : slice_get places NO_PAIR ≡ Some true
  pub len : length places ≡ NO_PAIR + 1

-- A place is that of one of the pattern's pairs without a star, or that of no pair.
abbrev pub IsNeed : ℕ → List ℕ → Type 0
IsNeed place pattern = (place ≡ NO_PAIR)
    ⊎ ((a b : ℕ) × (is_star a ≡ false) × (is_star b ≡ false) × (has_pair a b pattern ≡ true) × (place ≡ pair_place a b))

pub record AreNeeds (needs : Needs) (pattern : List ℕ) : Type 0 where
  pub first : IsNeed needs.first.place pattern
  pub second : IsNeed needs.second.place pattern
  pub third : IsNeed needs.third.place pattern

-- The places are in the table.
abbrev pub ArePlaces : Needs → Type 0
ArePlaces needs = (needs.first.place ≤ NO_PAIR) × (needs.second.place ≤ NO_PAIR) × (needs.third.place ≤ NO_PAIR)
