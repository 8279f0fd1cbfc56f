use Rattle.std.proofs.Common.{◌++◌}
use Rattle.cmd_base.proofs.Parts.{on_err_any, on_err_map, first_failed, rest_failed, flush_failed}
use Rattle.cmd_base.proofs.reporting.write_parts.Goals as goal

pub returns-in_err-put-clause-err : goal.returns-in_err-put-clause-err
returns-in_err-put-clause-err g c =
    on_err_any c.from_residual.result
    (first_failed c.args.first.now (c.args.second.now ++ c.args.third.now) c.new-line.ensures
    c.in_err-put.ensures.err)

pub returns-in_err-put_both-clause-err : goal.returns-in_err-put_both-clause-err
returns-in_err-put_both-clause-err g c =
    on_err_any c.from_residual-in_err-put_both.result
    (rest_failed c.args.first.now (c.args.second.now ++ c.args.third.now) c.new-line.ensures c.in_ok-put.ensures.ok
    c.in_err-put_both.ensures.err)

pub returns-clause-err : goal.returns-clause-err
returns-clause-err g c =
    on_err_map c.flush.result
    (λ front. flush_failed c.args.first.now (c.args.second.now ++ c.args.third.now) c.new-line.ensures
    c.in_ok-put.ensures.ok c.in_ok-put_both.ensures.ok front) c.flush.ensures.err
