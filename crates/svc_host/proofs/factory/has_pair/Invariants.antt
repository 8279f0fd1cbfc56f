use Rattle.std.proofs.Common.{◌≡◌, ℕ, ◌<◌, false, slice_index_or}
use Rattle.std.specs.Prelude.{◌==◌}
use Rattle.svc_host.specs.declared.pair.Pair.{Pair}
use Rattle.svc_host.proofs.factory.has_pair.Given as goal

-- so far none is this pair's
abbrev pub invariant-loop-pair : goal.invariant-loop-pair
invariant-loop-pair l =
    (k : ℕ) (d : Pair) → k < l.pair-index → ((slice_index_or l.pairs k d).slot == l.slot) ≡ false
