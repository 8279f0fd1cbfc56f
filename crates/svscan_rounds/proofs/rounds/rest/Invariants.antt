use Rattle.std.specs.Prelude.{◌≡◌, ℕ, List, None, All, map, Some}
use Rattle.tai_status.specs.Extended.{Extended}
use Rattle.svscan_rounds.specs.Calls.{Heard}
use Rattle.svscan_rounds.specs.Orders.{order_of}
use Rattle.svscan_rounds.proofs.Turning.{HasPassed}
use Rattle.svscan_rounds.proofs.rounds.rest.Given as goal

-- the bytes so far ask for nothing
abbrev pub invariant-loop : goal.invariant-loop
invariant-loop g l =
    HasPassed (g.K.ServiceSet.calls l.fn.services) (g.K.ServiceSet.calls l.services) × g.K.ServiceSet.ready l.services
