use Rattle.std.proofs.Common.{◌∙◌}
use Rattle.std.proofs.lemmas.Result.{err_from_is_err_and}
use Rattle.mlog_files.proofs.Doing.{Stays-then}
use Rattle.mlog_line.proofs.Ones.{chosen_further, chosen_stopped, read_flag}
use Rattle.mlog_line.proofs.logs.put_chosen.Goals as goal

pub returns-in_err-put_one : goal.returns-in_err-put_one
returns-in_err-put_one g c =
    let p = err_from_is_err_and c.from_residual.result c.from_residual.ensures.1 in
    let before = c.loop-log.invariant in
    let one = c.in_err-put_one.ensures in
    rw (p.1, p.2) (record {
      ok = tt;
      stopped = chosen_stopped _ _ _ c.args.chosen.now c.loop-log.log _ c.args.label.now c.args.bytes.now _
          c.loop-log-test.true (read_flag c.args.chosen.now c.loop-log.log c.loop-log-test.true)
          before.takes one.stopped;
      length = one.length ∙ before.length;
      stays = Stays-then before.stays one.stays;
    })

pub loop-log-preserved : goal.loop-log-preserved
loop-log-preserved g c =
    let before = c.loop-log.invariant in
    let one = c.in_ok-put_one.ensures in record {
      takes = chosen_further _ _ _ c.args.chosen.now c.loop-log.log _ c.args.label.now c.args.bytes.now
          c.loop-log-test.true (read_flag c.args.chosen.now c.loop-log.log c.loop-log-test.true)
          before.takes one.ok;
      length = one.length ∙ before.length;
      stays = Stays-then before.stays one.stays;
    }
