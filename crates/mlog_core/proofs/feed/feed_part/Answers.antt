use Rattle.std.proofs.Common.{arith, refl}
use Rattle.std.proofs.lemmas.Grind.{common_steps}
use Rattle.std.proofs.lemmas.Result.{err_from_is_err_and}
use Rattle.mlog_core.proofs.Going.{inside_went, inside_stopped, new_went, new_stopped}
use Rattle.mlog_core.proofs.feed.feed_part.Goals as goal

pub returns-in_err-taken-in-Some-clause-feeds : goal.returns-in_err-taken-in-Some-clause-feeds
returns-in_err-taken-in-Some-clause-feeds g c =
    let fed = c.in_err-taken-in-Some.ensures in
    let r = err_from_is_err_and c.from_residual.result c.from_residual.ensures.1 in
    rw (r.1, r.2) (record {
      within = tt;
      begun = tt;
      went = tt;
      stopped = λ line at. inside_stopped c.args.script.now c.args.inside c.in-Some.label c.args.router.now
          c.feed_line.new.router _ _ _ line c.args.bytes.now _
          c.in-Some.is fed.stopped at;
      serves = fed.serves;
      stays = fed.stays;
    })

pub returns-in_err-taken-in-None-clause-feeds : goal.returns-in_err-taken-in-None-clause-feeds
returns-in_err-taken-in-None-clause-feeds g c =
    let fed = c.in_err-taken-in-None.ensures in
    let r = err_from_is_err_and c.from_residual-in_err-taken-in-None.result
    c.from_residual-in_err-taken-in-None.ensures.1 in
    rw (r.1, r.2) (record {
      within = tt;
      begun = tt;
      went = tt;
      stopped = λ line at. new_stopped c.args.script.now c.args.inside c.now-label.result c.args.router.now
          c.begin.new.self c.feed_line-in-None.new.router _ _ _ _ line c.args.bytes.now _
          c.in-None.is c.begin.ensures.tails c.now-label.ensures c.begin.ensures.at fed.stopped at;
      serves = fed.serves;
      stays = fed.stays;
    })

pub returns-in_ok-taken-in-Some-clause-feeds : goal.returns-in_ok-taken-in-Some-clause-feeds
returns-in_ok-taken-in-Some-clause-feeds g c =
    let fed = c.in_ok-taken-in-Some.ensures in
    let taken = fed.taken in
    record {
      within = taken.1;
      begun = omega arith;
      went = λ line at. inside_went c.args.script.now c.args.inside c.in-Some.label c.args.router.now
          c.feed_line.new.router _ _ _ line _ c.in_ok-taken-in-Some.taken.ends _ _
          c.in-Some.is c.line_left.ensures refl (grind (arith, common_steps, taken)) fed.goes_on fed.ended at;
      stopped = tt;
      serves = fed.serves;
      stays = fed.stays;
    }

pub returns-in_ok-taken-in-None-clause-feeds : goal.returns-in_ok-taken-in-None-clause-feeds
returns-in_ok-taken-in-None-clause-feeds g c =
    let fed = c.in_ok-taken-in-None.ensures in
    let taken = fed.taken in
    record {
      within = taken.1;
      begun = let some = taken.0 in omega (arith, some);
      went = λ line at. new_went c.args.script.now c.args.inside c.now-label.result c.args.router.now c.begin.new.self
          c.feed_line-in-None.new.router _ _ _ _ line _ c.in_ok-taken-in-None.taken.ends _
          c.in-None.is c.line_left-in-None.ensures (grind (arith, common_steps, taken)) c.begin.ensures.tails
          c.now-label.ensures c.begin.ensures.at
          fed.goes_on fed.ended at;
      stopped = tt;
      serves = fed.serves;
      stays = fed.stays;
    }
