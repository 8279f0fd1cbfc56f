use Rattle.std.proofs.Common.{arith}
use Rattle.std.proofs.lemmas.Grind.{common_steps}
use Rattle.std.proofs.lemmas.Result.{err_from_is_err_and}
use Rattle.mlog_line.proofs.Alerted.{alerted_further, alerted_upto, none_alerted}
use Rattle.mlog_line.proofs.alerts.alert_all.Goals as goal

pub returns-in_err-count-clause-err : goal.returns-in_err-count-clause-err
returns-in_err-count-clause-err g c =
    let p = err_from_is_err_and c.from_residual.result c.from_residual.ensures.1 in
    rw (p.1) (alerted_upto _ _ _ c.args.text.now c.loop-at.at c.loop-at.invariant.0 c.in_err-count.ensures.err)

pub returns-then-count-eq0-clause-err : goal.returns-then-count-eq0-clause-err
returns-then-count-eq0-clause-err g c =
    alerted_upto _ _ _ c.args.text.now c.loop-at.at c.loop-at.invariant.0
    (none_alerted _ _ _ _ c.in_ok-count.ensures.ok c.if-count-eq0.true (grind (arith, common_steps)))

pub loop-at-preserved : goal.loop-at-preserved
loop-at-preserved g c =
    let alerted = c.in_ok-count.ensures.ok in (
      alerted_further _ _ _ c.args.text.now c.loop-at.at c.in_ok-count.count c.loop-at.invariant.0 alerted.alerts,
      grind (arith, common_steps),
    )
