use Rattle.star_match.proofs.HasPairs.{pair_in_tail, need_at}
use Rattle.star_match.proofs.pairs.Needs.of.Goals as goal

pub loop-rest-preserved-then-next-ne42 : goal.loop-rest-preserved-then-next-ne42
loop-rest-preserved-then-next-ne42 c =
    let stand = c.loop-rest.invariant.rest_stands in record {
      are = c.with-needs.ensures c.args.pattern.now c.loop-rest.invariant.are
          (need_at c.args.pattern.now c.loop-rest.rest.now c.pair_place.result c.in-len1-up.len_at_least
          c.in-len1-up-tail.len_at_least c.if-byte-ne42.true c.if-next-ne42.true stand c.pair_place.ensures.place);
      rest_stands = λ a b has. stand a b (pair_in_tail a b c.loop-rest.rest.now has);
    }
