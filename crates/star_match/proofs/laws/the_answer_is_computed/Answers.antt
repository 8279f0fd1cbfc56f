use Rattle.star_match.proofs.Computed.{computes, finds}
use Rattle.star_match.proofs.laws.the_answer_is_computed.Goals as goal

pub returns : goal.returns
returns c = λ pattern text apart. (finds pattern text, λ m. computes pattern text m apart)
