use Rattle.std.proofs.Common.{◌≡◌, length}
use Rattle.svc_host.specs.Ending.{EndSteps}
use Rattle.svc_host.proofs.host.end_parts.Given as goal

-- the steps of the parts so far were done
abbrev pub invariant-loop-place : goal.invariant-loop-place
invariant-loop-place g l = record {
  steps : EndSteps l.place l.fn.parts.items l.parts.items;
  count : length l.parts.items ≡ length l.fn.parts.items;
}
