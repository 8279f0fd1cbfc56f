use Rattle.std.proofs.Common.{◌≡◌}
use Rattle.sup_core.specs.History.{Begin, state_of}
use Rattle.sup_core.specs.Rules.{asks_of_begin}
use Rattle.svc_tests.proofs.Asked.{IsAsked}
use Rattle.svc_tests.proofs.pasts.run.Given as goal

abbrev pub invariant-loop : goal.invariant-loop
invariant-loop g l = record {
  -- what was asked so far
  asked : IsAsked (asks_of_begin (Begin l.fn.down l.fn.label)) (state_of (Begin l.fn.down l.fn.label))
      l.events.items l.house;
  station : l.house.station ≡ l.initial.house.station;
}
