use Rattle.std.proofs.Common.{◌≡◌, length}
use Rattle.svc_maker.proofs.Admitting.{AdmitsFirst}
use Rattle.svc_maker.proofs.kept_folder.admit_each.Given as goal

-- it was tried to admit the parts so far
abbrev pub invariant-loop-place : goal.invariant-loop-place
invariant-loop-place g l = record {
  admitted : AdmitsFirst l.place l.fn.kept l.kept (g.S.PartSystem.calls l.fn.system) (g.S.PartSystem.calls l.system);
  count : length l.kept ≡ length l.fn.kept;
}
