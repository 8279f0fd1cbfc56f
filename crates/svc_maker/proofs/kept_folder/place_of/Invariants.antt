use Rattle.std.proofs.Common.{◌<◌, ℕ, slice_index_or}
use Rattle.std.specs.Prelude.{◌≢◌}
use Rattle.svc_maker.specs.Making.{KeptPart}
use Rattle.svc_maker.proofs.kept_folder.place_of.Given as goal

abbrev pub invariant-loop-place : goal.invariant-loop-place
invariant-loop-place g l = (k : ℕ) (d : KeptPart) → k < l.place → (slice_index_or l.kept k d).part ≢ l.part
