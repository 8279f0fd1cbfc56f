use Rattle.std.proofs.Common.{◌≡◌, None, sym, subst, ap, ◌∙◌}
use Rattle.suite_core.specs.Suite.{SuiteState, suite_at, refusal_at}
use Rattle.suite_core.specs.Places.{AreRising, IsSuite}
use Rattle.suite_core.proofs.Tied.{parts-rise}
use Rattle.suite_core.proofs.Placed.{suite-at, not-refused}
use Rattle.suite_core.proofs.Runs.{IsSuite-at}
use Rattle.suite_core.proofs.suite.Suite.take_at.Goals as goal

pub find-requires : goal.find-requires
find-requires g c =
    subst (λ parts. AreRising parts) (sym c.deref.ensures.value)
    (parts-rise c.self.inside.table c.self.inside.parts.items c.self.invariant.rising c.self.invariant.tied)

pub take_event_in-answer-requires-clause-rising : goal.take_event_in-answer-requires-clause-rising
take_event_in-answer-requires-clause-rising g c =
    parts-rise c.self.inside.table c.self.inside.parts.items c.self.invariant.rising c.self.invariant.tied

pub returns-then-is_err-clause-cause : goal.returns-then-is_err-clause-cause
returns-then-is_err-clause-cause g c =
    let suite : SuiteState =
    record { table = c.self.inside.table; parts = c.self.inside.parts.items; capacity = c.self.inside.capacity } in
    let rising = parts-rise suite.table suite.parts c.self.invariant.rising c.self.invariant.tied in
    subst (λ s. refusal_at s c.args.id ≡ None) c.self.view_is
    (not-refused suite c.args.id c.in-Some.place c.deref.result.now rising c.deref.ensures.value c.in-Some.ensures)

pub invariant_of-self : goal.invariant_of-self
invariant_of-self g c =
    let suite : SuiteState =
    record { table = c.self.inside.table; parts = c.self.inside.parts.items; capacity = c.self.inside.capacity } in
    let rising = parts-rise suite.table suite.parts c.self.invariant.rising c.self.invariant.tied in
    subst IsSuite (sym (suite-at suite c.args.id c.args.event c.in-Some.place c.deref.result.now
    c.take_event_in-answer.new.parts.items c.note_end.new.table c.take_event_in-answer.result.1
    rising c.deref.ensures.value c.in-Some.ensures c.take_event_in-answer.ensures.parts
    c.take_event_in-answer.ensures.ended c.note_end.ensures))
    (IsSuite-at suite c.args.id c.args.event c.requires c.self.invariant)

pub returns-clause-ok : goal.returns-clause-ok
returns-clause-ok g c =
    let suite : SuiteState =
    record { table = c.self.inside.table; parts = c.self.inside.parts.items; capacity = c.self.inside.capacity } in
    let rising = parts-rise suite.table suite.parts c.self.invariant.rising c.self.invariant.tied in
    suite-at suite c.args.id c.args.event c.in-Some.place c.deref.result.now c.take_event_in-answer.new.parts.items
    c.note_end.new.table c.take_event_in-answer.result.1
    rising c.deref.ensures.value c.in-Some.ensures c.take_event_in-answer.ensures.parts
    c.take_event_in-answer.ensures.ended c.note_end.ensures
    ∙ ap (λ s. suite_at s c.args.id c.args.event) c.self.view_is

pub returns-clause-taken : goal.returns-clause-taken
returns-clause-taken g c =
    let suite : SuiteState =
    record { table = c.self.inside.table; parts = c.self.inside.parts.items; capacity = c.self.inside.capacity } in
    let rising = parts-rise suite.table suite.parts c.self.invariant.rising c.self.invariant.tied in
    subst (λ s. refusal_at s c.args.id ≡ None) c.self.view_is
    (not-refused suite c.args.id c.in-Some.place c.deref.result.now rising c.deref.ensures.value c.in-Some.ensures)
