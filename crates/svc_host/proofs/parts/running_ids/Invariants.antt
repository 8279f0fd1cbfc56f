use Rattle.std.proofs.Common.{◌≡◌, take}
use Rattle.svc_host.specs.Parts.{running_ids}
use Rattle.svc_host.proofs.parts.running_ids.Given as goal

-- the running parts so far
abbrev pub invariant-loop-part : goal.invariant-loop-part
invariant-loop-part g l = l.ids.items ≡ running_ids (take l.part-index l.parts)
