-- The test for two adjacent stars finds them.
use Rattle.std.proofs.Common.{◌≡◌, ℕ, ◌&&◌, ◌||◌, Bool, true, false, List, [], ◌∷◌, ◌++◌, refl, ap}
use Rattle.std.proofs.lemmas.Bool.{and_parts, eqb-true, false≢true}
use Rattle.star_match.specs.Star.{star, is_star, has_adjacent_stars}

abbrev HasRow : List ℕ → Type 0
HasRow pattern = (front after : List ℕ) × (pattern ≡ front ++ star ∷ star ∷ after)

pub row_of : (pattern : List ℕ) → has_adjacent_stars pattern ≡ true → (front after : List ℕ)
    × (pattern ≡ front ++ star ∷ star ∷ after)
row_of [] adjacent = absurd (false≢true adjacent)
row_of (x ∷ []) adjacent = absurd (false≢true adjacent)
row_of (x ∷ y ∷ rest) adjacent =
    elim (is_star x && is_star y) as (λ b. (is_star x && is_star y) ≡ b → HasRow (x ∷ y ∷ rest)) [
      | true ↦ λ here.
          let both = and_parts (is_star x) (is_star y) here in
          let first = eqb-true x star both.0 in
          let second = eqb-true y star both.1 in ([], rest, cc)
      | false ↦ λ later.
          let row = row_of (y ∷ rest) (rw later at adjacent) in (x ∷ row.0, row.1, ap (λ (t : List ℕ). x ∷ t) row.2)
    ] refl

pub or_later : (a b : Bool) → b ≡ true → (a || b) ≡ true
or_later true b is = refl
or_later false b is = is

pub adjacent_row : (front after : List ℕ) → has_adjacent_stars (front ++ star ∷ star ∷ after) ≡ true
adjacent_row [] after = refl
adjacent_row (x ∷ []) after = or_later (is_star x && true) _ (adjacent_row [] after)
adjacent_row (x ∷ y ∷ front) after = or_later (is_star x && is_star y) _ (adjacent_row (y ∷ front) after)
