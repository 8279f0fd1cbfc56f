use Rattle.std.proofs.Common.{◌≡◌, false, length}
use Rattle.star_match.specs.Star.{star_matches, has_adjacent_stars}
use Rattle.star_match.proofs.pattern.is_match.Given as goal

abbrev pub invariant-loop-rest : goal.invariant-loop-rest
invariant-loop-rest l = (has_adjacent_stars l.rest ≡ false)
    × (star_matches l.rest l.left ≡ star_matches l.fn.pattern l.fn.text)

abbrev pub decreases-loop-rest : goal.decreases-loop-rest
decreases-loop-rest l = length l.rest
