use Rattle.env_title.proofs.Distinct.{distinct_nothing}
use Rattle.env_title.proofs.env.Env.new.Goals as goal

pub invariant_of-result : goal.invariant_of-result
invariant_of-result g c = rw c.new.ensures.items distinct_nothing
