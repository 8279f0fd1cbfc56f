use Rattle.std.proofs.Common.{◌++◌}
use Rattle.std.proofs.lemmas.Result.{err_from_is_err_and, on_ok_weaker, on_err_weaker}
use Rattle.tai_status.proofs.Known.{Emits-then, Emits-front, AppendsFront-first}
use Rattle.cmd_local.specs.Digits.{fraction}
use Rattle.cmd_local.proofs.line.put_stamped.Goals as goal

pub returns-in_err-put_time-clause-err : goal.returns-in_err-put_time-clause-err
returns-in_err-put_time-clause-err g c =
    let p = err_from_is_err_and c.from_residual.result c.from_residual.ensures.1 in
    rw (p.1) (AppendsFront-first c.args.block.now (c.args.time.now ++ fraction c.args.nano) c.args.rest.now
    c.in_err-put_time.ensures.err)

pub returns-clause-ok : goal.returns-clause-ok
returns-clause-ok g c = on_ok_weaker c.put.result (λ e. Emits-then c.in_ok-put_time.ensures.ok e) c.put.ensures.ok

pub returns-clause-err : goal.returns-clause-err
returns-clause-err g c =
    on_err_weaker c.put.result (λ e. Emits-front c.args.rest.now c.in_ok-put_time.ensures.ok e) c.put.ensures.err
