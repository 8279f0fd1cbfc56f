use Rattle.svscan_rounds.specs.Rounds.{effects}
use Rattle.svscan_rounds.proofs.Turning.{IsUnderWay}
use Rattle.svscan_rounds.proofs.rounds.take_rounds.Given as goal

abbrev pub invariant-loop : goal.invariant-loop
invariant-loop g l =
    IsUnderWay l.folder l.fn.rounds l.left l.is_listed (effects (g.K.ServiceSet.calls l.fn.services) l.fn.faults)
    (effects (g.K.ServiceSet.calls l.services) l.faults)
    × g.K.ServiceSet.ready l.services
