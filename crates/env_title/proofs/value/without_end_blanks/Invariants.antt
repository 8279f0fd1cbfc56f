use Rattle.std.proofs.Common.{◌≡◌, length}
use Rattle.env_title.specs.Files.{without_end_blanks}
use Rattle.env_title.proofs.value.without_end_blanks.Given as goal

abbrev pub invariant-loop-rest : goal.invariant-loop-rest
invariant-loop-rest l = without_end_blanks l.rest ≡ without_end_blanks l.fn.bytes

abbrev pub decreases-loop-rest : goal.decreases-loop-rest
decreases-loop-rest l = length l.rest
