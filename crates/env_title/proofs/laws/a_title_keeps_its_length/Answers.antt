use Rattle.env_title.proofs.Pushes.{length-title}
use Rattle.env_title.proofs.laws.a_title_keeps_its_length.Goals as goal

pub returns : goal.returns
returns c = λ len bytes long. length-title len bytes long
