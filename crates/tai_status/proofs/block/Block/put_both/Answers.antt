use Rattle.std.proofs.lemmas.Result.{err_from_is_err_and, on_ok_weaker, on_err_weaker}
use Rattle.tai_status.proofs.Known.{Emits-then, Emits-front, AppendsFront-first}
use Rattle.tai_status.proofs.block.Block.put_both.Goals as goal

pub returns-in_err-put-clause-err : goal.returns-in_err-put-clause-err
returns-in_err-put-clause-err g c =
    let p = err_from_is_err_and c.from_residual.result c.from_residual.ensures.1 in
    rw (p.1) (AppendsFront-first c.args.self.now c.args.first.now c.args.second.now c.in_err-put.ensures.err)

pub returns-clause-ok : goal.returns-clause-ok
returns-clause-ok g c = on_ok_weaker c.put-2.result (λ e. Emits-then c.in_ok-put.ensures.ok e) c.put-2.ensures.ok

pub returns-clause-err : goal.returns-clause-err
returns-clause-err g c =
    on_err_weaker c.put-2.result (λ e. Emits-front c.args.second.now c.in_ok-put.ensures.ok e) c.put-2.ensures.err
