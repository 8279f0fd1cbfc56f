use Rattle.std.proofs.Common.{List, ℕ, [], ◌∷◌, ◌++◌, subst, sym}
use Rattle.star_match.specs.Star.{star, Matches}
use Rattle.star_match.proofs.Words.{found_at_first, matched_at_first}
use Rattle.star_match.proofs.laws.a_word_stands_at_its_first_byte.Goals as goal

pub returns : goal.returns
returns c = λ first rest text clean. (
  λ m. found_at_first first rest text clean m,
  λ at. subst (λ (t : List ℕ). Matches (star ∷ (first ∷ rest) ++ star ∷ []) t) (sym at.3)
      (matched_at_first first rest at.0 at.1 clean at.2),
)
