use Rattle.std.proofs.Common.{◌≡◌, take}
use Rattle.env_title.proofs.env.Env.copy.Given as goal

abbrev pub invariant-loop-variable : goal.invariant-loop-variable
invariant-loop-variable g l = l.variables.items ≡ take l.variable-index l.variable-items
