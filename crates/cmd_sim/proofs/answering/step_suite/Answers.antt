use Rattle.std.proofs.Common.{◌≡◌, sym, ◌∙◌}
use Rattle.std.proofs.lemmas.Result.{err_from_is_err_and}
use Rattle.sup_core.specs.Reading.{fields}
use Rattle.suite_lines.specs.Reading.{suite_event_from}
use Rattle.cmd_sim.specs.declared.fault.NoAnswer.TheVariants as none
use Rattle.cmd_sim.proofs.Answered.{unread_so, read_missed, IsSuiteEvent-spellable}
use Rattle.cmd_sim.proofs.answering.step_suite.Goals as goal

pub step_event-requires : goal.step_event-requires
step_event-requires g c = IsSuiteEvent-spellable c.in_ok-event.event c.in_ok-event.ensures.found.0

pub returns-in_err-event-clause-refused : goal.returns-in_err-event-clause-refused
returns-in_err-event-clause-refused g c = λ why is.
    let passed = err_from_is_err_and c.from_residual.result c.from_residual.ensures.1 in
    let whole = sym passed.1 ∙ is in
    let why_is : passed.0 ≡ none.Refused why = cc whole in
    unread_so c.args.suite.now (suite_event_from {A = g.row.A.Denot} (fields c.args.line.now)) c.in_err-event.field-0.0
    why
    c.in_err-event.ensures.exact (sym passed.2 ∙ why_is)

pub returns-in_err-event-clause-memory : goal.returns-in_err-event-clause-memory
returns-in_err-event-clause-memory g c = λ is.
    let passed = err_from_is_err_and c.from_residual.result c.from_residual.ensures.1 in
    let whole = sym passed.1 ∙ is in
    let why_is : passed.0 ≡ none.OutOfMemory = cc whole in
    read_missed c.args.suite.now (suite_event_from {A = g.row.A.Denot} (fields c.args.line.now))
    c.in_err-event.field-0.0 c.in_err-event.ensures.exact (sym passed.2 ∙ why_is)
