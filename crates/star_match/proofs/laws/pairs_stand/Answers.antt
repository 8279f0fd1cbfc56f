use Rattle.star_match.proofs.HasPairs.{pairs_stand}
use Rattle.star_match.proofs.laws.pairs_stand.Goals as goal

pub returns : goal.returns
returns c = λ a b pattern text plain also has m. pairs_stand m a b plain also has
