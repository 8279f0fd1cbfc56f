use Rattle.star_match.specs.Star.{star_last}
use Rattle.star_match.proofs.laws.a_star_matches_all.Goals as goal

pub returns : goal.returns
returns c = λ text. star_last text
