use Rattle.std.proofs.Common.{Err, sym, ap, ◌∙◌, arith}
use Rattle.std.proofs.lemmas.Result.{err_from_is_err_and}
use Rattle.cmd_sim.proofs.Steps.{SoFar-further, SoFar-line_refused, SoFar-line_unwritten, SoFar-line_missed}
use Rattle.cmd_sim.proofs.Steps.{SoFar-flushed, flush_failed, room_after, less_after, on_ok_both, SoFar-near}
use Rattle.cmd_sim.proofs.session.Session.answer_pending.Goals as goal

pub each-preserved : goal.each-preserved
each-preserved g c =
    let took = c.take_line.ensures.taken c.each-test.true in (
      λ before now held first.
          let s = c.each.invariant.0 before now held first in
          SoFar-further s took c.line.ensures (c.in_ok-answer_line.ensures.ok s.past s.stands)
          c.in_ok-answer_line.ensures.count,
      (let room = room_after c.each.self.count c.answer_line.new.self.count took c.in_ok-answer_line.ensures.count in
          omega (arith, room, c.each.invariant.1)),
      took.bound ∙ c.each.invariant.2,
      c.in_ok-answer_line.ensures.faults ∙ c.each.invariant.3,
      (let sum = less_after took in let was = c.each.invariant.4 in omega (arith, sum, was)),
    )

pub returns-in_err-answer_line-clause-refused : goal.returns-in_err-answer_line-clause-refused
returns-in_err-answer_line-clause-refused g c = λ number why is before now held first.
    let passed = err_from_is_err_and c.from_residual.result c.from_residual.ensures.1 in
    let same = ap Err (sym passed.2) ∙ sym passed.1 ∙ is in
    let subject = c.in_err-answer_line.ensures.refused_wrote number why same in
    let s = c.each.invariant.0 before now held first in
    SoFar-line_refused c.answer_line.new.writer.bytes s why (c.take_line.ensures.taken c.each-test.true) c.line.ensures
    subject.0 (c.in_err-answer_line.ensures.refused number why same s.past s.stands) subject.1

pub returns-in_err-answer_line-clause-write : goal.returns-in_err-answer_line-clause-write
returns-in_err-answer_line-clause-write g c = λ is before now held first.
    let passed = err_from_is_err_and c.from_residual.result c.from_residual.ensures.1 in
    let s = c.each.invariant.0 before now held first in
    SoFar-line_unwritten s (c.take_line.ensures.taken c.each-test.true) c.line.ensures
    (c.in_err-answer_line.ensures.write (ap Err (sym passed.2) ∙ sym passed.1 ∙ is) s.past s.stands)

pub returns-clause-ok : goal.returns-clause-ok
returns-clause-ok g c =
    on_ok_both c.flush.result
    (λ w none. λ before now held first.
    SoFar-flushed c.flush.new.writer.bytes (c.each.invariant.0 before now held first)
    (c.take_line.ensures.none c.each-test.false).1
    w none c.flush.ensures.subject c.flush.ensures.count)
    c.flush.ensures.ok c.flush.ensures.waiting

pub returns-clause-write : goal.returns-clause-write
returns-clause-write g c = λ is before now held first.
    flush_failed c.flush.result _ is (c.each.invariant.0 before now held first) c.flush.ensures.err

pub returns-in_err-answer_line-clause-near : goal.returns-in_err-answer_line-clause-near
returns-in_err-answer_line-clause-near g c = λ number why is before now held first small.
    let passed = err_from_is_err_and c.from_residual.result c.from_residual.ensures.1 in
    let same = ap Err (sym passed.2) ∙ sym passed.1 ∙ is in
    let subject = c.in_err-answer_line.ensures.refused_wrote number why same in
    let less = c.each.invariant.4 in
    SoFar-near number (c.each.invariant.0 before now held first) (omega (arith, less, small)) subject.0

pub returns-in_err-answer_line-clause-refused_works : goal.returns-in_err-answer_line-clause-refused_works
returns-in_err-answer_line-clause-refused_works g c = λ number why is.
    let passed = err_from_is_err_and c.from_residual.result c.from_residual.ensures.1 in
    c.in_err-answer_line.ensures.refused_works number why (ap Err (sym passed.2) ∙ sym passed.1 ∙ is)
    ∙ c.each.invariant.3

pub returns-in_err-answer_line-clause-memory : goal.returns-in_err-answer_line-clause-memory
returns-in_err-answer_line-clause-memory g c = λ is before now held first.
    let passed = err_from_is_err_and c.from_residual.result c.from_residual.ensures.1 in
    let same = ap Err (sym passed.2) ∙ sym passed.1 ∙ is in
    let s = c.each.invariant.0 before now held first in
    SoFar-line_missed c.answer_line.new.writer.bytes s (c.take_line.ensures.taken c.each-test.true) c.line.ensures
    (c.in_err-answer_line.ensures.memory same s.past s.stands)
    (c.in_err-answer_line.ensures.memory_wrote same)
