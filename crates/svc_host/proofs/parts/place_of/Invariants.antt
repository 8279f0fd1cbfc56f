use Rattle.std.proofs.Common.{◌<◌, ℕ, slice_index_or}
use Rattle.std.specs.Prelude.{◌≢◌}
use Rattle.svc_host.specs.Parts.{HostPart}
use Rattle.svc_host.proofs.parts.place_of.Given as goal

abbrev pub invariant-loop-place : goal.invariant-loop-place
invariant-loop-place g l = (k : ℕ) (d : HostPart) → k < l.place → (slice_index_or l.parts k d).id ≢ l.id
