use Rattle.std.proofs.Common.{◌≡◌, true, List, ℕ, subst, sym}
use Rattle.star_match.specs.Star.{has_adjacent_stars}
use Rattle.star_match.proofs.Adjacent.{row_of, adjacent_row}
use Rattle.star_match.proofs.laws.adjacent_stars_stand.Goals as goal

pub returns : goal.returns
returns c = λ pattern. (
  λ adjacent. row_of pattern adjacent,
  λ row. subst (λ (p : List ℕ). has_adjacent_stars p ≡ true) (sym row.2) (adjacent_row row.0 row.1),
)
