use Rattle.std.proofs.Common.{◌≡◌, ℕ, ◌<◌, false, slice_index_or}
use Rattle.scan_table.specs.declared.part.PartId.{PartId}
use Rattle.scan_table.specs.Table.{is_at}
use Rattle.svc_host.proofs.parts.restarts_in.Given as goal

abbrev pub invariant-loop-other : goal.invariant-loop-other
invariant-loop-other l =
    (k : ℕ) (d : PartId) → k < l.other-index → is_at (slice_index_or l.ids k d) l.id.slot l.id.role ≡ false
