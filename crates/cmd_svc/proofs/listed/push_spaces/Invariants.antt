use Rattle.std.proofs.Common.{◌≡◌, ◌++◌, replicate}
use Rattle.cmd_svc.proofs.listed.push_spaces.Given as goal

-- the spaces so far
abbrev pub invariant-loop : goal.invariant-loop
invariant-loop g l = l.out.items ≡ l.fn.out.items ++ replicate l.counter 32
