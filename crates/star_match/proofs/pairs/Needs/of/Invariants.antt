use Rattle.std.proofs.Common.{◌≡◌, ℕ, true, length}
use Rattle.star_match.specs.Pairs.{has_pair, AreNeeds}
use Rattle.star_match.proofs.pairs.Needs.of.Given as goal

abbrev pub invariant-loop-rest : goal.invariant-loop-rest
invariant-loop-rest l = record {
  are : AreNeeds l.needs l.pattern;
  rest_stands : (a b : ℕ) → has_pair a b l.rest ≡ true → has_pair a b l.pattern ≡ true;
}

abbrev pub decreases-loop-rest : goal.decreases-loop-rest
decreases-loop-rest l = length l.rest
