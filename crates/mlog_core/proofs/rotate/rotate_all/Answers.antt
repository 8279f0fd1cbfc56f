use Rattle.std.proofs.Common.{arith, ◌≡◌, count_by}
use Rattle.std.proofs.lemmas.Grind.{common_steps}
use Rattle.std.proofs.lemmas.Result.{err_from_is_err_and}
use Rattle.mlog_script.specs.Script.{is_log}
use Rattle.mlog_core.proofs.Rotating.{all_rotated, not_all_rotated}
use Rattle.mlog_core.proofs.rotate.rotate_all.Goals as goal

pub returns-in_err-rotate_log-clause-stopped : goal.returns-in_err-rotate_log-clause-stopped
returns-in_err-rotate_log-clause-stopped g c =
    let p = err_from_is_err_and c.from_residual.result c.from_residual.ensures.1 in
    rw (p.1, p.2) (not_all_rotated c.args.script.now c.now-reading.result _ _ _ c.loop-log.log _ _ _
    c.now-reading.ensures c.loop-log.invariant c.in_err-rotate_log.ensures.stopped)

pub returns-clause-done : goal.returns-clause-done
returns-clause-done g c =
    let ended = c.loop-log-test.false in
    let within = c.loop-log.auto.log-end in
    let all = c.logs-log-end.ensures in
    let is : c.loop-log.log ≡ count_by is_log c.args.script.now = grind (arith, common_steps, ended, within, all) in
    all_rotated c.args.script.now c.now-reading.result _ _ c.loop-log.log _ _ is c.now-reading.ensures
    c.loop-log.invariant
