use Rattle.std.proofs.Common.{◌≡◌, Result, Ok, Err, refl, sym, subst, ap, ◌∙◌}
use Rattle.std.specs.Prelude.{IsOk}
use Rattle.std.proofs.lemmas.Result.{err_from_is_err_and}
use Rattle.sup_core.specs.Reading.{fields}
use Rattle.sup_core.specs.declared.reading.EventFault.{EventFault}
use Rattle.suite_lines.specs.declared.event.SuiteEvent.{SuiteEvent}
use Rattle.suite_lines.specs.Reading.{suite_event_from}
use Rattle.suite_lines.proofs.EventTexts.{read_spelt}
use Rattle.suite_core.specs.Suite.{SuiteState, new_suite}
use Rattle.cmd_sim.specs.declared.fault.NoAnswer.TheVariants as none
use Rattle.cmd_sim.specs.Sim.{stepping}
use Rattle.cmd_sim.proofs.Answered.{unread_so, read_missed, right_ok, IsSuiteEvent-spellable}
use Rattle.cmd_sim.proofs.answering.begin_suite.Goals as goal

pub step_event-requires : goal.step_event-requires
step_event-requires g c = IsSuiteEvent-spellable c.in_ok-event.event c.in_ok-event.ensures.found.0

pub returns-in_err-event-clause-refused : goal.returns-in_err-event-clause-refused
returns-in_err-event-clause-refused g c = λ why is.
    let passed = err_from_is_err_and c.from_residual.result c.from_residual.ensures.1 in
    let whole = sym passed.1 ∙ is in
    let why_is : passed.0 ≡ none.Refused why = cc whole in
    unread_so (new_suite 0 256) (suite_event_from {A = g.row.A.Denot} (fields c.args.line.now))
    c.in_err-event.field-0.0 why c.in_err-event.ensures.exact (sym passed.2 ∙ why_is)

pub returns-in_err-event-clause-memory : goal.returns-in_err-event-clause-memory
returns-in_err-event-clause-memory g c = λ is.
    let passed = err_from_is_err_and c.from_residual.result c.from_residual.ensures.1 in
    let whole = sym passed.1 ∙ is in
    let why_is : passed.0 ≡ none.OutOfMemory = cc whole in
    right_ok (new_suite 0 256) (suite_event_from {A = g.row.A.Denot} (fields c.args.line.now))
    (read_missed (new_suite 0 256) (suite_event_from {A = g.row.A.Denot} (fields c.args.line.now))
    c.in_err-event.field-0.0 c.in_err-event.ensures.exact (sym passed.2 ∙ why_is))

pub returns-in_err-lines-clause-refused : goal.returns-in_err-lines-clause-refused
returns-in_err-lines-clause-refused g c = λ why is.
    let passed = err_from_is_err_and c.from_residual-in_err-lines.result c.from_residual-in_err-lines.ensures.1 in
    let whole = sym passed.1 ∙ is in
    let why_is : passed.0 ≡ none.Refused why = cc whole in
    let subject = read_spelt (suite_event_from {A = g.row.A.Denot} (fields c.args.line.now)) (Ok c.in_ok-event.event)
    c.in_ok-event.event c.in_ok-event.ensures.exact refl in
    ap (stepping (new_suite 0 256)) subject
    ∙ ap (λ (s : SuiteState). stepping s (Ok c.in_ok-event.event)) (sym c.in_ok-suite.ensures)
    ∙ c.in_err-lines.ensures.refused why (ap Err (sym passed.2 ∙ why_is))

pub returns-in_err-lines-clause-memory : goal.returns-in_err-lines-clause-memory
returns-in_err-lines-clause-memory g c = λ is.
    let subject = read_spelt (suite_event_from {A = g.row.A.Denot} (fields c.args.line.now)) (Ok c.in_ok-event.event)
    c.in_ok-event.event c.in_ok-event.ensures.exact refl in
    subst (λ (r : Result (SuiteEvent g.row.A.Denot) EventFault). IsOk r) (sym subject) refl

pub returns-clause-ok : goal.returns-clause-ok
returns-clause-ok g c =
    let subject = read_spelt (suite_event_from {A = g.row.A.Denot} (fields c.args.line.now)) (Ok c.in_ok-event.event)
    c.in_ok-event.event c.in_ok-event.ensures.exact refl in
    ap (stepping (new_suite 0 256)) subject
    ∙ ap (λ (s : SuiteState). stepping s (Ok c.in_ok-event.event)) (sym c.in_ok-suite.ensures)
    ∙ c.in_ok-lines.ensures.ok
