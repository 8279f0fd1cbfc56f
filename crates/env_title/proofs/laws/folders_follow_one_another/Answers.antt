use Rattle.env_title.proofs.Values.{follows}
use Rattle.env_title.proofs.laws.folders_follow_one_another.Goals as goal

pub returns : goal.returns
returns c = λ files more env. follows files more env
