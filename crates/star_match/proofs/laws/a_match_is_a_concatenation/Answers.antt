use Rattle.std.proofs.Common.{subst, sym, List, ℕ}
use Rattle.star_match.specs.Star.{Matches}
use Rattle.star_match.proofs.Cuts.{cut_of, joins}
use Rattle.star_match.proofs.laws.a_match_is_a_concatenation.Goals as goal

pub returns : goal.returns
returns c = λ pattern text. (
  λ m. cut_of m,
  λ cut. subst (λ (t : List ℕ). Matches pattern t) (sym cut.2) (joins pattern cut.0 cut.1),
)
