use Rattle.std.proofs.Common.{rules}
use Rattle.std.proofs.lemmas.Result.{err_from_is_err_and}
use Rattle.mlog_files.proofs.Doing.{Stays-then}
use Rattle.mlog_core.proofs.Alike.{all_taken}
use Rattle.mlog_core.proofs.Going.{flushed, unflushed}
use Rattle.mlog_core.proofs.feed.feed_block.Goals as goal

pub returns-in_err-flush-clause-feeds : goal.returns-in_err-flush-clause-feeds
returns-in_err-flush-clause-feeds g c =
    let fed = c.in_ok-fed.ensures.feeds in
    let flush = c.in_err-flush.ensures in
    let r = err_from_is_err_and c.from_residual-in_err-flush.result c.from_residual-in_err-flush.ensures.1 in
    rw (r.1, r.2) (record {
      within = tt;
      begun = tt;
      went = tt;
      stopped = λ line at. unflushed c.args.script.now _ line _ c.feed_parts.new.router c.flush.new.self _ _ _
          c.args.bytes.now _ _
          (all_taken c.args.script.now _ _ line c.args.bytes.now _ _ c.in_ok-fed.ensures.all (fed.went line at))
          flush.hands.stopped;
      serves = search rules;
      stays = Stays-then fed.stays flush.hands.stays;
    })

pub returns-clause-feeds : goal.returns-clause-feeds
returns-clause-feeds g c =
    let fed = c.in_ok-fed.ensures.feeds in
    let flush = c.in_ok-flush.ensures in
    record {
      within = fed.within;
      begun = fed.begun;
      went = λ line at. flushed c.args.script.now _ line _ c.feed_parts.new.router c.flush.new.self _ _ _ _ _
          (flush.same.chosen, flush.same.front, flush.same.decided) (fed.went line at) flush.hands.ok;
      stopped = tt;
      serves = search rules;
      stays = Stays-then fed.stays flush.hands.stays;
    }
