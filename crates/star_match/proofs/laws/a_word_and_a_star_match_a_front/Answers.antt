use Rattle.std.proofs.Common.{List, ℕ, [], ◌∷◌, ◌++◌, subst, sym}
use Rattle.star_match.specs.Star.{star, Matches, star_last}
use Rattle.star_match.proofs.Words.{word_then, word_then_of}
use Rattle.star_match.proofs.laws.a_word_and_a_star_match_a_front.Goals as goal

pub returns : goal.returns
returns c = λ word text clean. (
  λ m. let found = word_then_of word (star ∷ []) text clean m in (found.0, found.1),
  λ front. subst (λ (t : List ℕ). Matches (word ++ star ∷ []) t) (sym front.1)
      (word_then word (star ∷ []) front.0 clean (star_last front.0)),
)
