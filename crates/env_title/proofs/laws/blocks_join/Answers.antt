use Rattle.env_title.proofs.Pushes.{pushed-pushed}
use Rattle.env_title.proofs.laws.blocks_join.Goals as goal

pub returns : goal.returns
returns c = λ title bytes more. pushed-pushed title bytes more
