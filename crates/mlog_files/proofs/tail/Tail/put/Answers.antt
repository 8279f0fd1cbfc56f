use Rattle.std.proofs.Common.{arith}
use Rattle.std.proofs.lemmas.Grind.{common_steps}
use Rattle.std.proofs.lemmas.Result.{err_from_is_err_and}
use Rattle.mlog_files.specs.Tails.{standing}
use Rattle.mlog_files.proofs.Putting.{put_further, put_stands, put_stopped}
use Rattle.mlog_files.proofs.tail.Tail.put.Goals as goal

pub returns-in_err-at-clause-stopped : goal.returns-in_err-at-clause-stopped
returns-in_err-at-clause-stopped g c =
    let from = c.args.self.now in
    let now = c.loop-at.self in
    let kept = c.loop-at.invariant in
    let p = err_from_is_err_and c.from_residual.result c.from_residual.ensures.1 in
    rw (p.1) (rw (p.2) (put_stopped from.size from.keep now.size now.keep (standing from) (standing now)
    c.args.reading.now c.args.bytes.now c.loop-at.at
    kept.same.size kept.same.keep kept.puts.stands kept.puts.goes c.in_err-at.ensures.stopped))

pub loop-at-preserved : goal.loop-at-preserved
loop-at-preserved g c =
    let from = c.args.self.now in
    let now = c.loop-at.self in
    let kept = c.loop-at.invariant in
    let more = c.in_ok-at.ensures.puts in record {
      puts = record {
        goes = put_further from.size from.keep now.size now.keep (standing from) (standing now) c.args.reading.now
            c.args.bytes.now c.loop-at.at c.in_ok-at.field-0
            kept.same.size kept.same.keep kept.puts.stands kept.puts.goes more.goes;
        stands = put_stands from.size from.keep now.size now.keep (standing from) (standing now) _ c.args.reading.now
            c.args.bytes.now c.loop-at.at c.in_ok-at.field-0
            kept.same.size kept.same.keep kept.puts.stands more.stands;
      };
      within = grind (arith, common_steps);
      same = grind (arith, common_steps);
    }
