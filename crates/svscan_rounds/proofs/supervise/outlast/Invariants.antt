use Rattle.svscan_rounds.specs.Rounds.{effects}
use Rattle.svscan_rounds.proofs.Outlasting.{IsWatched}
use Rattle.svscan_rounds.proofs.supervise.outlast.Given as goal

-- it ran each time so far
abbrev pub invariant-loop : goal.invariant-loop
invariant-loop g l =
    IsWatched l.folder (effects (g.K.ServiceSet.calls l.fn.services) l.fn.faults)
    (effects (g.K.ServiceSet.calls l.services) l.faults)
    × g.K.ServiceSet.ready l.services
