use Rattle.std.proofs.lemmas.Result.{on_ok_weaker, err_from_is_err_and}
use Rattle.mlog_line.proofs.Taking.{if_err_weaker}
use Rattle.mlog_core.proofs.Going.{end_goes, end_stopped, end_unflushed}
use Rattle.mlog_core.proofs.feed.feed_end.Goals as goal

pub returns-in_err-end-in-Some-clause-ends : goal.returns-in_err-end-in-Some-clause-ends
returns-in_err-end-in-Some-clause-ends g c =
    let r = err_from_is_err_and c.from_residual.result c.from_residual.ensures.1 in
    rw (r.1, r.2) (record {
      grows = tt;
      stopped = λ line at. end_stopped c.args.script.now c.args.inside c.in-Some.label c.args.router.now _ _ line _
          c.in-Some.is c.in_err-end-in-Some.ensures.stopped at;
    })

pub returns-in_ok-end-in-Some-clause-ends : goal.returns-in_ok-end-in-Some-clause-ends
returns-in_ok-end-in-Some-clause-ends g c =
    let end = c.in_ok-end-in-Some.ensures in
    record {
      grows = on_ok_weaker c.flush.result
          (λ k line at. end_goes c.args.script.now c.args.inside c.in-Some.label c.args.router.now _ _ _ line
          c.in-Some.is
          end.grows k at) c.flush.ensures.hands.ok;
      stopped = if_err_weaker c.flush.result _ _
          (λ why k line at. end_unflushed c.args.script.now c.args.inside c.in-Some.label c.args.router.now _ _ _ line
          why c.in-Some.is
          end.grows k at) c.flush.ensures.hands.stopped;
    }
