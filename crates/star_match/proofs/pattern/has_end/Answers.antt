use Rattle.std.proofs.Common.{◌∙◌}
use Rattle.star_match.proofs.Ends.{ends_alike}
use Rattle.star_match.proofs.pattern.has_end.Goals as goal

pub returns : goal.returns
returns c = λ m.
    c.eq.ensures ∙ ends_alike c.args.pattern.now c.args.text.now c.last.result c.last-2.result c.in-Some.byte
    c.last.ensures.value c.in-Some.is c.if-byte-eq42.false c.last-2.ensures.value m
