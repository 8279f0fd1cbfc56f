use Rattle.std.proofs.Common.{◌≡◌, ◌++◌, Ok, refl, sym, ap, ◌∙◌}
use Rattle.std.proofs.lemmas.Result.{err_from_is_err_and}
use Rattle.std.specs.Prelude.{flat_map}
use Rattle.suite_lines.specs.Text.{step_lines}
use Rattle.suite_core.specs.Suite.{outs_of, refusal}
use Rattle.cmd_sim.specs.declared.fault.NoAnswer.TheVariants as none
use Rattle.cmd_sim.proofs.Answered.{unstepped_so, stepped_so, step_missed}
use Rattle.cmd_sim.proofs.answering.step_event.Goals as goal

pub returns-in_err-step-clause-refused : goal.returns-in_err-step-clause-refused
returns-in_err-step-clause-refused g c = λ why is.
    let passed = err_from_is_err_and c.from_residual.result c.from_residual.ensures.1 in
    let whole = sym passed.1 ∙ is in
    let why_is : passed.0 ≡ none.Refused why = cc whole in
    unstepped_so c.args.suite.now c.args.event.now c.in_err-step.field-0.0 why c.in_err-step.ensures.cause
    (sym passed.2 ∙ why_is)

pub returns-in_err-step-clause-memory : goal.returns-in_err-step-clause-memory
returns-in_err-step-clause-memory g c = λ is.
    let passed = err_from_is_err_and c.from_residual.result c.from_residual.ensures.1 in
    let whole = sym passed.1 ∙ is in
    let why_is : passed.0 ≡ none.OutOfMemory = cc whole in
    step_missed (refusal c.args.suite.now c.args.event.now) c.in_err-step.field-0.0 c.in_err-step.ensures.cause
    (sym passed.2 ∙ why_is)

pub returns-clause-ok : goal.returns-clause-ok
returns-clause-ok g c =
    stepped_so c.args.suite.now c.step.new.self (Ok c.args.event.now) c.args.event.now
    c.in_ok-lines_of.field-0 refl c.in_ok-step.ensures.taken c.in_ok-step.ensures.ok
    (c.in_ok-lines_of.ensures ∙ ap (flat_map step_lines) (c.deref.ensures.value ∙ c.in_ok-step.ensures.outs
    ∙ ap (λ outs. outs ++ outs_of c.args.suite.now c.args.event.now) c.new-outs.ensures.items))
