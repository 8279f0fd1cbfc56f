use Rattle.std.proofs.Common.{length}
use Rattle.star_match.proofs.HasPairs.{Noted}
use Rattle.star_match.proofs.pairs.NotedText.note.Given as goal

abbrev pub invariant-loop-rest : goal.invariant-loop-rest
invariant-loop-rest l = Noted l.self-inside.places l.text l.rest

abbrev pub decreases-loop-rest : goal.decreases-loop-rest
decreases-loop-rest l = length l.rest
