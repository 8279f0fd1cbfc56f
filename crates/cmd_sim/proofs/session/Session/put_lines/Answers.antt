use Rattle.std.proofs.Common.{ℕ, List, [], ◌∷◌, ◌++◌, string_bytes, subst, ◌∙◌}
use Rattle.std.proofs.lemmas.Result.{err_from_is_err_and}
use Rattle.tai_status.specs.Counted.{AppendsFront}
use Rattle.tai_status.specs.Block.{Emits}
use Rattle.cmd_sim.proofs.Steps.{puts_more, puts_failed}
use Rattle.cmd_sim.proofs.session.Session.put_lines.Goals as goal

pub returns-in_err-put-clause-err : goal.returns-in_err-put-clause-err
returns-in_err-put-clause-err g c =
    let passed = err_from_is_err_and c.from_residual.result c.from_residual.ensures.1 in
    let front = subst (λ (t : List ℕ). AppendsFront c.loop-line.writer.bytes c.put.new.writer.bytes
    (c.loop-line.self.waiting ++ (t ++ 10 ∷ []))) c.as_bytes.ensures.value c.in_err-put.ensures.err in
    rw passed.1 (puts_failed (λ line. string_bytes line) c.args.lines.now c.loop-line.line-index c.line-item.result
    c.loop-line-test.true c.line-item.is c.loop-line.invariant.puts front)

pub loop-line-preserved : goal.loop-line-preserved
loop-line-preserved g c =
    let put = subst (λ (t : List ℕ). Emits c.loop-line.writer.bytes c.put.new.writer.bytes c.loop-line.self.waiting
    c.put.new.self.waiting (t ++ 10 ∷ [])) c.as_bytes.ensures.value c.in_ok-put.ensures.ok in
    record {
      puts = puts_more (λ line. string_bytes line) c.args.lines.now c.loop-line.line-index c.line-item.result
          c.loop-line-test.true c.line-item.is c.loop-line.invariant.puts put;
      faults = c.in_ok-put.ensures.faults ∙ c.loop-line.invariant.faults;
      subject = c.in_ok-put.ensures.subject ∙ c.loop-line.invariant.subject;
      count = c.in_ok-put.ensures.count ∙ c.loop-line.invariant.count;
    }
