use Rattle.mlog_line.proofs.Ones.{read_flag}
use Rattle.std.proofs.lemmas.Result.{err_from_is_err_and}
use Rattle.mlog_line.proofs.Alerted.{alerted_no_further}
use Rattle.mlog_line.proofs.alerts.alert_chosen.Goals as goal

pub returns-in_err-alert_if-clause-err : goal.returns-in_err-alert_if-clause-err
returns-in_err-alert_if-clause-err g c =
    let p = err_from_is_err_and c.from_residual.result c.from_residual.ensures.1 in
    rw (p.1) (alerted_no_further _ _ _ c.args.chosen.now c.loop-is_chosen.is_chosen-index _ c.args.front.now
    c.loop-is_chosen-test.true
    (read_flag c.args.chosen.now c.loop-is_chosen.is_chosen-index c.loop-is_chosen-test.true)
    c.loop-is_chosen.invariant c.in_err-alert_if.ensures.err)
