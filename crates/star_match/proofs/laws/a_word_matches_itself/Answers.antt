use Rattle.std.proofs.Common.{List, ℕ, subst, sym}
use Rattle.star_match.specs.Star.{Matches}
use Rattle.star_match.proofs.Words.{word_is, word_itself}
use Rattle.star_match.proofs.laws.a_word_matches_itself.Goals as goal

pub returns : goal.returns
returns c = λ word text clean. (
  λ m. word_is word text clean m,
  λ same. subst (λ (t : List ℕ). Matches word t) (sym same) (word_itself word clean),
)
