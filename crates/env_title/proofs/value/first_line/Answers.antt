use Rattle.env_title.proofs.First.{end_is}
use Rattle.env_title.proofs.value.first_line.Goals as goal

pub returns : goal.returns
returns c = end_is 10 c.args.bytes.now c.memchr.result c.unwrap_or-end.result c.memchr.ensures c.unwrap_or-end.ensures
