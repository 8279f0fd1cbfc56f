use Rattle.std.proofs.Common.{◌≡◌, ◌<◌, ℕ, false, slice_index_or}
use Rattle.svc_host.specs.Parts.{HostPart, runs_at}
use Rattle.svc_host.proofs.parts.place_at.Given as goal

abbrev pub invariant-loop-place : goal.invariant-loop-place
invariant-loop-place g l =
    (k : ℕ) (d : HostPart) → k < l.place → runs_at l.slot l.role (slice_index_or l.parts k d) ≡ false
