use Rattle.svc_house.specs.Turn.{IsSameHouse}
use Rattle.svc_host.specs.Kills.{KeepsTime}
use Rattle.svc_host.proofs.service.run.Given as goal

abbrev pub invariant-loop : goal.invariant-loop
invariant-loop g l =
    (goal.iterator-loop g).can_next l.iterator' × (goal.iterator-loop g).is_finite l.iterator'
    × IsSameHouse l.fn.house l.house × KeepsTime l.fn.house.events l.house.events l.fn.timer l.timer
