use Rattle.std.proofs.Common.{◌≡◌, take}
use Rattle.svc_host.specs.Parts.{losses_in}
use Rattle.svc_host.proofs.parts.losses.Given as goal

-- the losses of the parts so far
abbrev pub invariant-loop-part : goal.invariant-loop-part
invariant-loop-part g l = l.losses.items ≡ losses_in (take l.part-index l.parts)
