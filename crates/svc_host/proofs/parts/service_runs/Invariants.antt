use Rattle.std.proofs.Common.{◌≡◌, ℕ, ◌<◌, false, slice_index_or}
use Rattle.std.specs.Prelude.{not, ◌&&◌}
use Rattle.scan_table.specs.declared.part.Role.TheVariants.{Main}
use Rattle.scan_table.specs.Table.{is_at}
use Rattle.svc_host.specs.Parts.{HostPart}
use Rattle.svc_host.proofs.parts.service_runs.Given as goal

-- so far none is it
abbrev pub invariant-loop-part : goal.invariant-loop-part
invariant-loop-part g l =
    (k : ℕ) (d : HostPart) → k < l.part-index
    → (is_at (slice_index_or l.parts k d).id l.slot Main && not (slice_index_or l.parts k d).has_ended) ≡ false
