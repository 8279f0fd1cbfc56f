use Rattle.std.proofs.Common.{◌≡◌, take}
use Rattle.svc_maker.specs.Admission.{refusals}
use Rattle.svc_maker.proofs.kept_folder.refusals_in.Given as goal

-- the refusals of the parts so far
abbrev pub invariant-loop-one : goal.invariant-loop-one
invariant-loop-one g l = l.all.items ≡ refusals (take l.one-index l.kept)
