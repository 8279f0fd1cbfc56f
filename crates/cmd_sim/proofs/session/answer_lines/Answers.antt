use Rattle.std.proofs.Common.{◌≡◌, ◌+◌, ℕ, Err, length, subst, sym, ap, ◌∙◌, arith, refl, inr}
use Rattle.std.proofs.lemmas.Result.{err_from_is_err_and, on_ok_weaker}
use Rattle.tai_status.specs.LineReader.{Given}
use Rattle.tai_status.specs.Counted.{Device, Rose}
use Rattle.cmd_sim.specs.declared.fault.Why.TheVariants as fault
use Rattle.cmd_sim.proofs.Steps.{
  SoFar-begin,
  SoFar-filled,
  SoFar-near,
  SoFar-kept,
  long_refused,
  read_failed,
  refused_as,
}
use Rattle.cmd_sim.proofs.session.answer_lines.Goals as goal

pub reads-init : goal.reads-init
reads-init g c = (
  SoFar-begin _ _ (ap (λ (l : Given). l.pending) c.in-Ok.ensures) c.new-session.ensures.waiting
      c.new-session.ensures.subject c.new-session.ensures.count,
  c.new-session.ensures.waiting,
  ap (λ (l : Given). l.bound) c.in-Ok.ensures,
  (let n = c.new-session.ensures.count in let p : length c.in-Ok.lines.pending ≡ 0 =
      ap (λ (l : Given). length l.pending) c.in-Ok.ensures in omega (arith, n, p)),
  refl,
  refl,
  (let n = c.new-session.ensures.count in let p : length c.in-Ok.lines.pending ≡ 0 =
      ap (λ (l : Given). length l.pending) c.in-Ok.ensures in omega (arith, n, p)),
  (let p : length c.in-Ok.lines.pending ≡ 0 = ap (λ (l : Given). length l.pending) c.in-Ok.ensures in omega (arith, p)),
)

pub answer_pending-requires : goal.answer_pending-requires
answer_pending-requires g c = let room = c.reads.invariant.6 in omega (arith, room)

pub returns-in_err-answer_pending-clause-refused : goal.returns-in_err-answer_pending-clause-refused
returns-in_err-answer_pending-clause-refused g c = λ number why is.
    let passed = err_from_is_err_and c.from_residual.result c.from_residual.ensures.1 in
    let same = ap Err (sym passed.2) ∙ sym passed.1 ∙ is in (
      c.in_err-answer_pending.ensures.refused number why same _ _ _ c.reads.invariant.0,
      c.in_err-answer_pending.ensures.near number why same _ _ _ c.reads.invariant.0 c.reads.invariant.7,
    )

pub returns-in_err-answer_pending-clause-refused_works : goal.returns-in_err-answer_pending-clause-refused_works
returns-in_err-answer_pending-clause-refused_works g c = λ number why is.
    let passed = err_from_is_err_and c.from_residual.result c.from_residual.ensures.1 in (
      c.reads.invariant.4,
      c.in_err-answer_pending.ensures.refused_works number why (ap Err (sym passed.2) ∙ sym passed.1 ∙ is)
          ∙ c.reads.invariant.5,
    )

pub reads-preserved : goal.reads-preserved
reads-preserved g c =
    let s = c.in_ok-answer_pending.ensures.ok _ _ _ c.reads.invariant.0 in (
      SoFar-filled s c.in-Ok-true.ensures.filled,
      c.in_ok-answer_pending.ensures.waiting,
      c.in-Ok-true.ensures.bound ∙ c.in_ok-answer_pending.ensures.bound ∙ c.reads.invariant.2,
      (let was = c.reads.invariant.3 in let left = c.in_ok-answer_pending.ensures.room in
          let more = c.in-Ok-true.ensures.block in let read = c.in-Ok-true.ensures.reads.0 in
          omega (arith, was, left, more, read)),
      c.in-Ok-true.ensures.faults ∙ c.reads.invariant.4,
      c.in_ok-answer_pending.ensures.faults ∙ c.reads.invariant.5,
      (let was = c.reads.invariant.3 in let left = c.in_ok-answer_pending.ensures.room in
          let more = c.in-Ok-true.ensures.block in let read = c.in-Ok-true.ensures.reads in
          omega (arith, was, left, more, read.0, read.1)),
      (let more = c.in-Ok-true.ensures.block in let short = c.in-Ok-true.ensures.short in
          let bound = c.in_ok-answer_pending.ensures.bound ∙ c.reads.invariant.2 in
          omega (arith, more, short, bound)),
    )

pub returns-in-Ok-false-clause-all : goal.returns-in-Ok-false-clause-all
returns-in-Ok-false-clause-all g c =
    let s = SoFar-filled (c.in_ok-answer_pending.ensures.ok _ _ _ c.reads.invariant.0) c.in-Ok-false.ensures.filled in
    on_ok_weaker c.answer_rest.result (λ f. f _ _ _ s (c.in-Ok-false.ensures.end c.in-Ok-false.field-0-test).0)
    c.answer_rest.ensures.all

pub returns-in-Ok-false-clause-refused : goal.returns-in-Ok-false-clause-refused
returns-in-Ok-false-clause-refused g c = λ number why is.
    let s = SoFar-filled (c.in_ok-answer_pending.ensures.ok _ _ _ c.reads.invariant.0) c.in-Ok-false.ensures.filled in
    let same = ap length (c.in-Ok-false.ensures.end c.in-Ok-false.field-0-test).1 in
    let less = c.in_ok-answer_pending.ensures.less in
    let small = c.reads.invariant.7 in (
      c.answer_rest.ensures.refused number why is _ _ _ s (c.in-Ok-false.ensures.end c.in-Ok-false.field-0-test).0,
      c.answer_rest.ensures.near number why is _ _ _ s (omega (arith, same, less, small)),
    )

pub returns-in-Ok-false-clause-write : goal.returns-in-Ok-false-clause-write
returns-in-Ok-false-clause-write g c = λ is.
    let s = SoFar-filled (c.in_ok-answer_pending.ensures.ok _ _ _ c.reads.invariant.0) c.in-Ok-false.ensures.filled in (
      subst (λ (n : ℕ). Rose n c.answer_rest.new.writer.faults) (c.in_ok-answer_pending.ensures.faults
          ∙ c.reads.invariant.5) (c.answer_rest.ensures.fault is),
      c.answer_rest.ensures.write is _ _ _ s,
    )

pub returns-in-Err-TooLong-clause-refused : goal.returns-in-Err-TooLong-clause-refused
returns-in-Err-TooLong-clause-refused g c = λ number why is.
    let s = c.in_ok-answer_pending.ensures.ok _ _ _ c.reads.invariant.0 in
    let all = long_refused c.answer_pending.new.lines s c.in_ok-answer_pending.ensures.waiting
    (c.in_ok-answer_pending.ensures.bound ∙ c.reads.invariant.2)
    (c.in-Err-TooLong.ensures.long.0 (ap Err c.in-Err-TooLong.field-0-is)) c.in_ok-answer_pending.ensures.plain in
    let number_is : c.answer_pending.new.self.count + 1 ≡ number = cc is in
    let why_is : fault.Line ≡ why = cc is in
    let less = c.in_ok-answer_pending.ensures.less in
    let small = c.reads.invariant.7 in
    let kept = c.in-Err-TooLong.ensures.kept in (
      refused_as c.args.reader.now.bytes c.args.writer.now.bytes c.answer_pending.new.writer.bytes number_is why_is all,
      SoFar-near number (SoFar-kept s kept.1) (omega (arith, less, small)) (sym number_is),
    )

pub returns-in-Err-Read-clause-read : goal.returns-in-Err-Read-clause-read
returns-in-Err-Read-clause-read g c = λ is.
    let s = c.in_ok-answer_pending.ensures.ok _ _ _ c.reads.invariant.0 in (
      subst (λ (n : ℕ). Rose n c.fill.new.reader.faults) c.reads.invariant.4
          (c.in-Err-Read.ensures.read (ap Err c.in-Err-Read.field-0-is)),
      read_failed s c.in_ok-answer_pending.ensures.waiting c.in_ok-answer_pending.ensures.plain
          c.in-Err-Read.ensures.kept.1,
    )

pub returns-in-Err-TooLong-clause-refused_works : goal.returns-in-Err-TooLong-clause-refused_works
returns-in-Err-TooLong-clause-refused_works g c = λ number why is. (
  ap (λ (d : Device). d.faults) (c.in-Err-TooLong.ensures.untouched (ap Err c.in-Err-TooLong.field-0-is))
      ∙ c.reads.invariant.4,
  c.in_ok-answer_pending.ensures.faults ∙ c.reads.invariant.5,
)

pub returns-in-Ok-false-clause-memory : goal.returns-in-Ok-false-clause-memory
returns-in-Ok-false-clause-memory g c = λ is.
    let s = SoFar-filled (c.in_ok-answer_pending.ensures.ok _ _ _ c.reads.invariant.0) c.in-Ok-false.ensures.filled in
    inr (c.answer_rest.ensures.memory is _ _ _ s (c.in-Ok-false.ensures.end c.in-Ok-false.field-0-test).0)
