use Rattle.star_match.proofs.First.{cut_at}
use Rattle.star_match.proofs.pattern.from_first.Goals as goal

pub returns : goal.returns
returns c = cut_at c.args.byte c.args.text.now c.memchr.result c.unwrap_or-at.result c.memchr.ensures
    c.unwrap_or-at.ensures
