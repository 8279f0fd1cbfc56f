use Rattle.env_title.proofs.Values.{stay_distinct}
use Rattle.env_title.proofs.laws.names_stay_distinct.Goals as goal

pub returns : goal.returns
returns c = λ files env distinct. stay_distinct files env distinct
