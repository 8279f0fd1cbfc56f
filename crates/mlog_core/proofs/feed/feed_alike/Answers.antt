use Rattle.std.proofs.Common.{ap, ◌∙◌, length, arith, rules}
use Rattle.std.proofs.lemmas.Grind.{common_steps}
use Rattle.std.proofs.lemmas.Result.{err_from_is_err_and}
use Rattle.mlog_core.proofs.Alike.{alike_taken, alike_went, alike_stopped, where_none, where_none_stopped}
use Rattle.mlog_line.proofs.Taking.{Stays-same}
use Rattle.mlog_core.proofs.Going.{no_bytes}
use Rattle.mlog_core.proofs.feed.feed_alike.Goals as goal

pub returns-in_err-put_alike-clause-feeds : goal.returns-in_err-put_alike-clause-feeds
returns-in_err-put_alike-clause-feeds g c =
    let lines = c.read_alike-lines in
    let hands = c.in_err-put_alike.ensures.hands in
    let r = err_from_is_err_and c.from_residual.result c.from_residual.ensures.1 in
    rw (r.1, r.2) (record {
      within = tt;
      begun = tt;
      went = tt;
      stopped = λ line at. where_none_stopped c.args.script.now _ _ line _ _ at
          (alike_stopped c.args.script.now lines.result.reach c.args.router.now lines.new.router c.put_alike.new.self _
          _ _ _ c.args.bytes.now lines.result.len lines.result.count _
          lines.ensures.tails (ap length lines.ensures.tails ∙ c.requires.serves.tails)
          (alike_taken c.args.script.now lines.result.reach _ _ c.args.bytes.now c.min-room.result lines.result.len
          lines.result.count lines.ensures.within lines.ensures.alike)
          hands.stopped);
      serves = search rules;
      stays = hands.stays;
    })

pub returns-then-room-eq0-clause-feeds : goal.returns-then-room-eq0-clause-feeds
returns-then-room-eq0-clause-feeds g c = record {
  within = omega arith;
  begun = omega arith;
  went = no_bytes c.args.script.now _;
  stopped = tt;
  serves = c.requires.serves;
  stays = Stays-same _;
}

pub returns-clause-feeds : goal.returns-clause-feeds
returns-clause-feeds g c =
    let lines = c.read_alike-lines in
    let hands = c.in_ok-put_alike.ensures.hands in
    record {
      within = grind (arith, common_steps);
      begun = lines.ensures.count;
      went = λ line at. where_none c.args.script.now _ _ line _ _ at
          (alike_went c.args.script.now lines.result.reach c.args.router.now lines.new.router c.put_alike.new.self _ _ _
          _ _ lines.result.count
          lines.ensures.tails (ap length lines.ensures.tails ∙ c.requires.serves.tails)
          (alike_taken c.args.script.now lines.result.reach _ _ c.args.bytes.now c.min-room.result lines.result.len
          lines.result.count lines.ensures.within lines.ensures.alike)
          hands.ok);
      stopped = tt;
      serves = search rules;
      stays = hands.stays;
    }
