use Rattle.std.proofs.Common.{take, sym, ap, ◌∙◌}
use Rattle.sup_core.specs.History.{state_of}
use Rattle.sup_core.specs.Runs.{after}
use Rattle.sup_core.proofs.Laws.{after-take}
use Rattle.sup_core.proofs.machine.Machine.run.Goals as goal

pub loop-event-preserved : goal.loop-event-preserved
loop-event-preserved c = λ past h.
    let i = c.loop-event.event-index in
    let here = after past (take i c.args.events.now) in
    let state = c.loop-event.invariant past h in
    c.step.ensures.state here (sym state)
    ∙ ap state_of (sym (after-take past c.args.events.now i c.event-item.result c.loop-event-test.true c.event-item.is))
