use Rattle.std.proofs.Common.{◌≡◌, Err, sym, ap, ◌∙◌}
use Rattle.std.proofs.lemmas.Result.{err_from_is_err_and}
use Rattle.cmd_sim.specs.declared.fault.NoAnswer.TheVariants as none
use Rattle.cmd_sim.proofs.Answered.{service_refused, service_says, suite_missed, suite_refused, suite_says}
use Rattle.cmd_sim.proofs.answering.Subject.answer.Goals as goal

pub returns-in_err-step_service-in-Service-clause-refused : goal.returns-in_err-step_service-in-Service-clause-refused
returns-in_err-step_service-in-Service-clause-refused g c = λ why is past stands.
    let passed = err_from_is_err_and c.from_residual-in_err-step_service-in-Service.result
    c.from_residual-in_err-step_service-in-Service.ensures.1 in
    let whole = sym passed.1 ∙ is in
    let why_is : passed.0 ≡ none.Refused why = cc whole in
    service_refused past c.args.line.now c.in-Service.machine c.args.self.now why stands c.in-Service.is c.requires
    (c.in_err-step_service-in-Service.ensures.refused why (ap Err (sym passed.2 ∙ why_is)))

pub returns-in_err-step_suite-in-Suite-clause-refused : goal.returns-in_err-step_suite-in-Suite-clause-refused
returns-in_err-step_suite-in-Suite-clause-refused g c = λ why is past stands.
    let passed = err_from_is_err_and c.from_residual-in_err-step_suite-in-Suite.result
    c.from_residual-in_err-step_suite-in-Suite.ensures.1 in
    let whole = sym passed.1 ∙ is in
    let why_is : passed.0 ≡ none.Refused why = cc whole in
    suite_refused past c.args.line.now c.in-Suite.suite c.args.self.now why stands c.in-Suite.is c.requires
    (c.in_err-step_suite-in-Suite.ensures.refused why (ap Err (sym passed.2 ∙ why_is)))

pub returns-in_err-step_suite-in-Suite-clause-memory : goal.returns-in_err-step_suite-in-Suite-clause-memory
returns-in_err-step_suite-in-Suite-clause-memory g c = λ is past stands.
    let passed = err_from_is_err_and c.from_residual-in_err-step_suite-in-Suite.result
    c.from_residual-in_err-step_suite-in-Suite.ensures.1 in
    let whole = sym passed.1 ∙ is in
    let why_is : passed.0 ≡ none.OutOfMemory = cc whole in
    suite_missed past c.args.line.now c.in-Suite.suite c.args.self.now stands c.in-Suite.is
    (c.in_err-step_suite-in-Suite.ensures.memory (ap Err (sym passed.2 ∙ why_is)))

pub returns-in_ok-step_service-in-Service-clause-ok : goal.returns-in_ok-step_service-in-Service-clause-ok
returns-in_ok-step_service-in-Service-clause-ok g c = λ past stands.
    service_says past c.args.line.now c.in_ok-step_service-in-Service.field-0.bytes c.in-Service.machine
    c.step_service.new.machine c.args.self.now stands
    c.in-Service.is c.requires c.in_ok-step_service-in-Service.ensures.ok

pub returns-in_ok-step_suite-in-Suite-clause-ok : goal.returns-in_ok-step_suite-in-Suite-clause-ok
returns-in_ok-step_suite-in-Suite-clause-ok g c = λ past stands.
    suite_says past c.args.line.now c.in_ok-step_suite-in-Suite.field-0 c.in-Suite.suite c.step_suite.new.suite
    c.args.self.now stands
    c.in-Suite.is c.requires c.in_ok-step_suite-in-Suite.ensures.ok
