use Rattle.std.proofs.Common.{◌≡◌}
use Rattle.svc_host.proofs.Forgetting.{forgot_first}
use Rattle.svc_host.proofs.parts.forget_losses.Given as goal

-- the parts so far have forgotten their losses
abbrev pub invariant-loop-place : goal.invariant-loop-place
invariant-loop-place g l = l.parts.items ≡ forgot_first l.place l.fn.parts.items
