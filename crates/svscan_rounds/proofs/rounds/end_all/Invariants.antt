use Rattle.svscan_rounds.specs.Rounds.{effects}
use Rattle.svscan_rounds.proofs.Turning.{IsEnding}
use Rattle.svscan_rounds.proofs.rounds.end_all.Given as goal

-- each time some still ran
abbrev pub invariant-loop : goal.invariant-loop
invariant-loop g l =
    IsEnding (effects (g.K.ServiceSet.calls l.fn.services) l.fn.faults)
    (effects (g.K.ServiceSet.calls l.services) l.faults)
    × g.K.ServiceSet.ready l.services
