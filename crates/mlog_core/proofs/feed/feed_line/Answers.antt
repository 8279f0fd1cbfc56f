use Rattle.std.proofs.Common.{arith}
use Rattle.std.proofs.lemmas.Grind.{common_steps}
use Rattle.std.proofs.lemmas.Result.{err_from_is_err_and}
use Rattle.mlog_files.proofs.Doing.{Stays-then}
use Rattle.mlog_core.proofs.Going.{line_put_stopped, line_end_stopped, line_ended}
use Rattle.mlog_core.proofs.Lines.{not_false}
use Rattle.mlog_core.proofs.feed.feed_line.Goals as goal

pub returns-in_err-put : goal.returns-in_err-put
returns-in_err-put g c =
    let front = c.plain_front-front in
    let put = c.in_err-put.ensures in
    let r = err_from_is_err_and c.from_residual.result c.from_residual.ensures.1 in
    rw (r.1, r.2) (record {
      taken = tt;
      goes_on = tt;
      ended = tt;
      stopped = λ line at plain. line_put_stopped c.args.script.now c.args.label.now line c.args.bytes.now
          front.result.len front.result.ends _ _ _
          front.ensures.plain c.requires.some front.ensures.newline front.ensures.none (put.stopped line at) plain;
      serves = put.serves;
      stays = put.stays;
    })

pub returns-then-not-front : goal.returns-then-not-front
returns-then-not-front g c =
    let front = c.plain_front-front in
    let put = c.in_ok-put.ensures in
    record {
      taken = (grind (arith, common_steps), grind (arith, common_steps));
      goes_on = λ ends line at. record { at = put.at line at; plain = front.ensures.plain; grows = put.grows line at };
      ended = λ ends. cc;
      stopped = tt;
      serves = put.serves;
      stays = put.stays;
    }

pub returns-in_err-end : goal.returns-in_err-end
returns-in_err-end g c =
    let front = c.plain_front-front in
    let put = c.in_ok-put.ensures in
    let end = c.in_err-end.ensures in
    let r = err_from_is_err_and c.from_residual-in_err-end.result c.from_residual-in_err-end.ensures.1 in
    rw (r.1, r.2) (record {
      taken = tt;
      goes_on = tt;
      ended = tt;
      stopped = λ line at plain. line_end_stopped c.args.script.now c.args.label.now line c.args.bytes.now
          front.result.len front.result.ends _ _ _ _
          front.ensures.plain c.requires.some front.ensures.newline front.ensures.none (put.grows line at)
          (end.stopped _ (put.at line at)) plain;
      serves = end.serves;
      stays = Stays-then put.stays end.stays;
    })

pub returns : goal.returns
returns g c =
    let front = c.plain_front-front in
    let put = c.in_ok-put.ensures in
    let end = c.in_ok-end.ensures in
    record {
      taken = (grind (arith, common_steps), grind (arith, common_steps));
      goes_on = λ ends. cc;
      ended = λ ends line at. line_ended c.args.script.now c.args.label.now line c.args.bytes.now front.result.len _ _ _
          front.ensures.plain
          (front.ensures.newline (not_false front.result.ends c.if-not-front.false)) (put.grows line at)
          (end.grows _ (put.at line at));
      stopped = tt;
      serves = end.serves;
      stays = Stays-then put.stays end.stays;
    }
