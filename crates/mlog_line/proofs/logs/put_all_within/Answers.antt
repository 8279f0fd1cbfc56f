use Rattle.std.proofs.Common.{length, arith, ◌∙◌, ◌<◌}
use Rattle.std.proofs.lemmas.Grind.{common_steps}
use Rattle.std.proofs.lemmas.Result.{err_from_is_err_and}
use Rattle.mlog_files.proofs.Doing.{Stays-then}
use Rattle.mlog_line.proofs.Running.{first_further, first_stopped}
use Rattle.mlog_line.proofs.logs.put_all_within.Goals as goal

pub returns-in_err-put_one_within : goal.returns-in_err-put_one_within
returns-in_err-put_one_within g c =
    let p = err_from_is_err_and c.from_residual.result c.from_residual.ensures.1 in
    let before = c.loop-log.invariant in
    let one = c.in_err-put_one_within.ensures.hands in
    let few : c.loop-log.log < length c.args.tails.now.items = grind (arith, common_steps) in
    rw (p.1, p.2) (record {
      ok = tt;
      stopped = λ text is. first_stopped _ _ _ c.loop-log.log (length c.args.tails.now.items) text _ few
          (before.takes text is) (one.stopped text is);
      length = one.length ∙ before.length;
      stays = Stays-then before.stays one.stays;
    })

pub loop-log-preserved : goal.loop-log-preserved
loop-log-preserved g c =
    let before = c.loop-log.invariant in
    let one = c.in_ok-put_one_within.ensures in record {
      takes = λ text is. first_further _ _ _ c.loop-log.log text (before.takes text is) (one.hands.ok text is);
      others = λ n above. one.others n (let a = above in omega (arith, a))
          ∙ before.others n (let a = above in omega (arith, a));
      length = one.hands.length ∙ before.length;
      stays = Stays-then before.stays one.hands.stays;
    }
