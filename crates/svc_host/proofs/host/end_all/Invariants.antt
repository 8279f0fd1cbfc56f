use Rattle.std.proofs.Common.{◌≡◌, drop}
use Rattle.svc_host.specs.Rounds.{after_ends, unmade_ids}
use Rattle.svc_host.proofs.host.end_all.Given as goal

abbrev pub invariant-loop-unmade : goal.invariant-loop-unmade
invariant-loop-unmade l =
    after_ends (unmade_ids (drop l.unmade-index l.failed)) l.table ≡ after_ends (unmade_ids l.failed) l.fn.table
