use Rattle.std.proofs.Common.{◌≡◌}
use Rattle.std.specs.Prelude.{replicate}
use Rattle.circular_buffer.specs.Buffer.{buffer}
use Rattle.env_title.specs.Title.{dot}
use Rattle.env_title.proofs.title.full_of_dots.Given as goal

abbrev pub invariant-loop : goal.invariant-loop
invariant-loop g l = l.items ≡ buffer (replicate l.counter dot) l.capacity
