use Rattle.std.proofs.Common.{Err, sym, ap, ◌∙◌}
use Rattle.std.proofs.lemmas.Result.{err_from_is_err_and, on_ok_weaker}
use Rattle.cmd_sim.proofs.Steps.{not_nothing, rest_refused, rest_missed, rest_unwritten, rest_answered, rest_unflushed}
use Rattle.cmd_sim.proofs.Steps.{on_err_of, SoFar-near}
use Rattle.cmd_sim.proofs.session.Session.answer_rest.Goals as goal

pub returns-in_err-answer_line-clause-refused : goal.returns-in_err-answer_line-clause-refused
returns-in_err-answer_line-clause-refused g c = λ number why is before now held s end.
    let passed = err_from_is_err_and c.from_residual.result c.from_residual.ensures.1 in
    let same = ap Err (sym passed.2) ∙ sym passed.1 ∙ is in
    let subject = c.in_err-answer_line.ensures.refused_wrote number why same in
    let some = not_nothing c.args.lines.now.pending c.if-not-take_rest.false c.take_rest.ensures.none in
    rest_refused c.answer_line.new.writer.bytes s why some c.requires.plain end
    (c.line.ensures ∙ c.take_rest.ensures.taken c.if-not-take_rest.false) subject.0
    (c.in_err-answer_line.ensures.refused number why same s.past s.stands) subject.1

pub returns-in_err-answer_line-clause-write : goal.returns-in_err-answer_line-clause-write
returns-in_err-answer_line-clause-write g c = λ is before now held s.
    let passed = err_from_is_err_and c.from_residual.result c.from_residual.ensures.1 in
    let some = not_nothing c.args.lines.now.pending c.if-not-take_rest.false c.take_rest.ensures.none in
    rest_unwritten s some c.requires.plain (c.line.ensures ∙ c.take_rest.ensures.taken c.if-not-take_rest.false)
    (c.in_err-answer_line.ensures.write (ap Err (sym passed.2) ∙ sym passed.1 ∙ is) s.past s.stands)

pub returns-clause-all : goal.returns-clause-all
returns-clause-all g c =
    let some = not_nothing c.args.lines.now.pending c.if-not-take_rest.false c.take_rest.ensures.none in
    on_ok_weaker c.flush.result
    (λ w. λ before now held s end.
    rest_answered c.flush.new.writer.bytes s some c.requires.plain end
    (c.line.ensures ∙ c.take_rest.ensures.taken c.if-not-take_rest.false)
    (c.in_ok-answer_line.ensures.ok s.past s.stands) w)
    c.flush.ensures.ok

pub returns-clause-write : goal.returns-clause-write
returns-clause-write g c = λ is before now held s.
    let some = not_nothing c.args.lines.now.pending c.if-not-take_rest.false c.take_rest.ensures.none in
    rest_unflushed s some c.requires.plain (c.line.ensures ∙ c.take_rest.ensures.taken c.if-not-take_rest.false)
    (c.in_ok-answer_line.ensures.ok s.past s.stands) (on_err_of c.flush.result _ is c.flush.ensures.err)

pub returns-in_err-answer_line-clause-near : goal.returns-in_err-answer_line-clause-near
returns-in_err-answer_line-clause-near g c = λ number why is before now held s small.
    let passed = err_from_is_err_and c.from_residual.result c.from_residual.ensures.1 in
    let same = ap Err (sym passed.2) ∙ sym passed.1 ∙ is in
    let subject = c.in_err-answer_line.ensures.refused_wrote number why same in
    SoFar-near number s small subject.0

pub returns-in_err-answer_line-clause-refused_works : goal.returns-in_err-answer_line-clause-refused_works
returns-in_err-answer_line-clause-refused_works g c = λ number why is.
    let passed = err_from_is_err_and c.from_residual.result c.from_residual.ensures.1 in
    c.in_err-answer_line.ensures.refused_works number why (ap Err (sym passed.2) ∙ sym passed.1 ∙ is)

pub returns-in_err-answer_line-clause-memory : goal.returns-in_err-answer_line-clause-memory
returns-in_err-answer_line-clause-memory g c = λ is before now held s end.
    let passed = err_from_is_err_and c.from_residual.result c.from_residual.ensures.1 in
    let same = ap Err (sym passed.2) ∙ sym passed.1 ∙ is in
    let some = not_nothing c.args.lines.now.pending c.if-not-take_rest.false c.take_rest.ensures.none in
    rest_missed c.answer_line.new.writer.bytes s some c.requires.plain end
    (c.line.ensures ∙ c.take_rest.ensures.taken c.if-not-take_rest.false)
    (c.in_err-answer_line.ensures.memory same s.past s.stands)
    (c.in_err-answer_line.ensures.memory_wrote same)
