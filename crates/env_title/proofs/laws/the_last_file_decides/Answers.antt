use Rattle.env_title.proofs.Values.{decides}
use Rattle.env_title.proofs.laws.the_last_file_decides.Goals as goal

pub returns : goal.returns
returns c = λ files env name. decides files env name
