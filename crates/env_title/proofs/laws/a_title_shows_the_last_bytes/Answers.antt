use Rattle.std.proofs.Common.{ap}
use Rattle.env_title.specs.Title.{title_text}
use Rattle.env_title.proofs.Pushes.{one_by_one}
use Rattle.env_title.proofs.laws.a_title_shows_the_last_bytes.Goals as goal

pub returns : goal.returns
returns c = λ len bytes. ap title_text (one_by_one len bytes)
