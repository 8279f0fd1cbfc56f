use Rattle.star_match.proofs.HasPairs.{noted_front}
use Rattle.star_match.proofs.pairs.NotedText.note.Goals as goal

pub loop-rest-preserved : goal.loop-rest-preserved
loop-rest-preserved c =
    noted_front c.loop-rest.self-inside.places c.args.text.now c.loop-rest.rest.now c.pair_place.result
    c.in-len1-up.len_at_least c.in-len1-up-tail.len_at_least c.pair_place.ensures.place c.loop-rest.invariant
