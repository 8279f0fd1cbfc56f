use Rattle.star_match.proofs.Cuts.{one_cut}
use Rattle.star_match.proofs.laws.a_match_has_one_cut.Goals as goal

pub returns : goal.returns
returns c = λ pattern parts others apart are also same. one_cut pattern apart parts others are also same
