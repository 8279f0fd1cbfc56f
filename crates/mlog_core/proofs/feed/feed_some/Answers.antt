use Rattle.std.proofs.Common.{arith}
use Rattle.std.proofs.lemmas.Grind.{common_steps}
use Rattle.std.proofs.lemmas.Result.{err_from_is_err_and}
use Rattle.mlog_core.proofs.Alike.{after_nothing}
use Rattle.mlog_core.proofs.feed.feed_some.Goals as goal

pub returns-in_err-fed-clause-feeds : goal.returns-in_err-fed-clause-feeds
returns-in_err-fed-clause-feeds g c =
    let r = err_from_is_err_and c.from_residual.result c.from_residual.ensures.1 in
    rw (r.1, r.2, c.in-None.is) c.in_err-fed.ensures.feeds

pub returns-then-fed-gt0-clause-feeds : goal.returns-then-fed-gt0-clause-feeds
returns-then-fed-gt0-clause-feeds g c = rw c.in-None.is c.in_ok-fed.ensures.feeds

pub returns-clause-feeds : goal.returns-clause-feeds
returns-clause-feeds g c =
    let fed = c.in_ok-fed.ensures in
    after_nothing c.feed_part-2.result c.args.script.now c.args.inside _ c.args.router.now _ _ _ _ _ _ _ _
    c.args.bytes.now c.in_ok-fed.fed.len c.in_ok-fed.fed.begun
    c.in-None.is fed.none (grind (arith, common_steps)) fed.feeds.begun fed.feeds.went fed.feeds.stays
    c.feed_part-2.ensures.feeds
