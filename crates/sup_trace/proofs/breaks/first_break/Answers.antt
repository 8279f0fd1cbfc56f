use Rattle.std.proofs.Common.{◌∙◌, ap, sym, arith, length, true≢false, below_more}
use Rattle.sup_core.specs.State.{State}
use Rattle.sup_core.specs.History.{state_of}
use Rattle.sup_trace.specs.Breaks.{BreaksAt}
use Rattle.sup_trace.specs.Explained.{before}
use Rattle.sup_trace.proofs.Places.{entry_at, no_break, first_found, no_break_at_all}
use Rattle.sup_trace.proofs.breaks.first_break.Goals as goal

pub step-reply-requires : goal.step-reply-requires
step-reply-requires g c =
    let items = c.entries-event-items in
    (entry_at c.args.content.now items.result.now c.loop-place.place c.event-item.result items.ensures.bounds
    items.ensures.entries
    c.loop-place-test.true c.event-item.is).condition

pub returns-then-is_met : goal.returns-then-is_met
returns-then-is_met g c =
    let content = c.args.content.now in
    let items = c.entries-event-items in
    let place = c.loop-place.place in
    let event = c.event-item.result in
    let entry = entry_at content items.result.now place event items.ensures.bounds items.ensures.entries
    c.loop-place-test.true c.event-item.is in
    let past = before content place in
    let stands = sym c.loop-place.invariant.machine in
    let phase = c.phase.ensures ∙ ap (λ (s : State). s.phase) (c.step-reply.ensures.state past stands) in
    first_found content c.args.at place event entry c.loop-place.invariant.none
    ((c.is_met.ensures past (c.step-reply.ensures.reply past stands) phase).0 c.if-is_met.true)

pub loop-place-preserved : goal.loop-place-preserved
loop-place-preserved g c =
    let content = c.args.content.now in
    let items = c.entries-event-items in
    let place = c.loop-place.place in
    let event = c.event-item.result in
    let entry = entry_at content items.result.now place event items.ensures.bounds items.ensures.entries
    c.loop-place-test.true c.event-item.is in
    let past = before content place in
    let stands = sym c.loop-place.invariant.machine in
    let state = c.step-reply.ensures.state past stands in
    let phase = c.phase.ensures ∙ ap (λ (s : State). s.phase) state in
    let met = c.is_met.ensures past (c.step-reply.ensures.reply past stands) phase in
    record {
      machine = state ∙ ap state_of (sym entry.next_is);
      none = below_more (λ n. ¬ BreaksAt content c.args.at n) place c.loop-place.invariant.none
          (no_break content c.args.at place event entry (λ breaks. true≢false (sym (met.1 breaks)
          ∙ c.if-is_met.false)));
    }

pub returns : goal.returns
returns g c =
    let items = c.entries-event-items in
    no_break_at_all c.args.content.now c.args.at c.loop-place.place (omega (arith, ap length items.ensures.entries))
    c.loop-place.invariant.none
