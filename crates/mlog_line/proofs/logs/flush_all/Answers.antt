use Rattle.std.proofs.Common.{arith, ◌∙◌}
use Rattle.std.proofs.lemmas.Grind.{common_steps}
use Rattle.std.proofs.lemmas.Result.{err_from_is_err_and}
use Rattle.mlog_files.proofs.Doing.{Stays-then}
use Rattle.mlog_line.specs.Given.{nothing}
use Rattle.mlog_line.proofs.Taking.{Takes-then, Stops-then}
use Rattle.mlog_line.proofs.Ones.{all_written}
use Rattle.mlog_line.proofs.logs.flush_all.Goals as goal

pub returns-in_err-flush_one-clause-hands : goal.returns-in_err-flush_one-clause-hands
returns-in_err-flush_one-clause-hands g c =
    let p = err_from_is_err_and c.from_residual.result c.from_residual.ensures.1 in
    let before = c.loop-log.invariant in
    let one = c.in_err-flush_one.ensures.hands in
    rw (p.1, p.2) (record {
      ok = tt;
      stopped = Stops-then _ _ _ nothing nothing _ before.takes one.stopped;
      length = one.length ∙ before.length;
      stays = Stays-then before.stays one.stays;
    })

pub loop-log-preserved : goal.loop-log-preserved
loop-log-preserved g c =
    let before = c.loop-log.invariant in
    let one = c.in_ok-flush_one.ensures in record {
      takes = Takes-then _ _ _ nothing nothing before.takes one.hands.ok;
      written = one.written before.written;
      length = one.hands.length ∙ before.length;
      stays = Stays-then before.stays one.hands.stays;
    }

pub returns-clause-written : goal.returns-clause-written
returns-clause-written g c = all_written _ _ c.loop-log.invariant.written (let e = c.loop-log.invariant.length in
    grind (arith, common_steps, e))
