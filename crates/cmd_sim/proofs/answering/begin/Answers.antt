use Rattle.std.proofs.Common.{◌≡◌, Err, refl, sym, ap, ◌∙◌}
use Rattle.suite_core.specs.Suite.{new_suite}
use Rattle.std.proofs.lemmas.Result.{err_from_is_err_and}
use Rattle.sup_core.specs.Reading.{fields, begin_from}
use Rattle.cmd_sim.specs.declared.fault.NoAnswer.TheVariants as none
use Rattle.cmd_sim.specs.Sim.{Nothing, beginning}
use Rattle.cmd_sim.proofs.Answered.{first_refused_scan, first_says_scan, first_missed, said-first, Says-service}
use Rattle.cmd_sim.proofs.answering.begin.Goals as goal

pub returns-in_err-suite-clause-refused : goal.returns-in_err-suite-clause-refused
returns-in_err-suite-clause-refused g c = λ why is.
    let passed = err_from_is_err_and c.from_residual.result c.from_residual.ensures.1 in
    let whole = sym passed.1 ∙ is in
    let why_is : passed.0 ≡ none.Refused why = cc whole in
    first_refused_scan g.row.A.Denot c.args.line.now (new_suite 0 256) why refl c.requires
    (sym c.if-spells_scan.ensures)
    (c.in_err-suite.ensures.refused why (ap Err (sym passed.2 ∙ why_is)))

pub returns-in_err-suite-clause-memory : goal.returns-in_err-suite-clause-memory
returns-in_err-suite-clause-memory g c = λ is.
    let passed = err_from_is_err_and c.from_residual.result c.from_residual.ensures.1 in
    let whole = sym passed.1 ∙ is in
    let why_is : passed.0 ≡ none.OutOfMemory = cc whole in
    first_missed g.row.A.Denot c.args.line.now (sym c.if-spells_scan.ensures)
    (c.in_err-suite.ensures.memory (ap Err (sym passed.2 ∙ why_is)))

pub returns-then-spells_scan-clause-ok : goal.returns-then-spells_scan-clause-ok
returns-then-spells_scan-clause-ok g c =
    first_says_scan {A = g.row.A.Denot} c.args.line.now c.in_ok-suite.lines (new_suite 0 256) c.in_ok-suite.suite
    refl c.requires (sym c.if-spells_scan.ensures) c.in_ok-suite.ensures.ok

pub returns-clause-ok : goal.returns-clause-ok
returns-clause-ok g c =
    Says-service Nothing c.args.line.now c.in_ok-machine.text.bytes c.in_ok-machine.machine
    (beginning (begin_from (fields c.args.line.now)))
    (said-first c.args.line.now c.requires (sym c.if-spells_scan.ensures)) c.in_ok-machine.ensures.ok
