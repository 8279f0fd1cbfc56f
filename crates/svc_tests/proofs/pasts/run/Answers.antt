use Rattle.std.proofs.Common.{List, Option, refl, sym, subst, ◌∙◌}
use Rattle.sup_core.specs.declared.asks.Ask.{Ask}
use Rattle.sup_core.specs.declared.event.Event.{Event}
use Rattle.sup_core.specs.History.{Begin, state_of}
use Rattle.sup_core.specs.Rules.{asks_of_begin}
use Rattle.svc_house.specs.declared.call.Call.{Call}
use Rattle.svc_house.specs.Calls.{ExtendedWhileKept, requested}
use Rattle.svc_tests.specs.Asked.{IsAskedSo}
use Rattle.svc_tests.proofs.Asked.{IsAsked, answers_are, asked_on, begins_asked}
use Rattle.svc_tests.proofs.pasts.run.Goals as goal

pub loop-init : goal.loop-init
loop-init g c =
    let first = asks_of_begin (Begin c.args.down c.args.label) in
    let opening = state_of (Begin c.args.down c.args.label) in
    record {
      asked = subst (λ (events : List Event). IsAsked first opening events c.open-house.result)
          (sym c.new-events.ensures.items)
          (begins_asked first opening c.args.world c.open-house.result c.requires
          (subst (λ (asks : List Ask). ExtendedWhileKept c.args.world c.open-house.result.calls (requested asks))
          c.begin-machine.ensures.asks c.open-house.ensures.calls)
          (c.open-house.ensures.station.1 ∙ c.in-Ok.ensures.opening ∙ c.begin-machine.ensures.machine)
          c.open-house.ensures.events.0);
      station = refl;
    }

pub loop-preserved : goal.loop-preserved
loop-preserved g c =
    let first = asks_of_begin (Begin c.args.down c.args.label) in
    let opening = state_of (Begin c.args.down c.args.label) in
    record {
      asked = subst (λ (events : List Event). IsAsked first opening events c.turn-turned.new.self)
          (sym c.note.ensures)
          (asked_on first opening c.loop.events.items c.loop.house c.turn-turned.new.self c.turn-turned.result
          c.turn-turned.ensures.same c.turn-turned.ensures.turned c.turn-turned.ensures.refused
          c.loop.invariant.asked);
      station = c.turn-turned.ensures.same.station ∙ c.loop.invariant.station;
    }

pub returns-clause-asks : goal.returns-clause-asks
returns-clause-asks g c =
    subst (λ (calls : Option (List Call)). IsAskedSo c.args.down c.args.label c.loop.events.items calls)
    (sym c.take_apart-world.ensures.world) c.loop.invariant.asked.asks

pub returns-clause-answers : goal.returns-clause-answers
returns-clause-answers g c =
    answers_are c.take_apart-world.result.0 c.loop.house.calls c.loop.events.items c.loop.house.events
    c.loop.house.pending c.take_apart-world.result.3 c.take_apart-world.ensures.world c.loop.invariant.asked.events_are
    c.take_apart-world.ensures.pending c.take_apart-world.ensures.facts.outcomes
