use Rattle.std.proofs.Common.{arith}
use Rattle.std.proofs.lemmas.Grind.{common_steps}
use Rattle.std.proofs.lemmas.Result.{err_from_is_err_and}
use Rattle.mlog_files.proofs.Doing.{Stays-then}
use Rattle.mlog_line.proofs.Taking.{Stays-same}
use Rattle.mlog_core.proofs.Going.{further, no_further, no_bytes}
use Rattle.mlog_core.proofs.feed.feed_parts.Goals as goal

pub loop-len-init : goal.loop-len-init
loop-len-init g c = record {
  went = no_bytes c.args.script.now _;
  within = omega arith;
  begun = omega arith;
  serves = c.requires.serves;
  stays = Stays-same _;
}

pub returns-in_err-fed-clause-feeds : goal.returns-in_err-fed-clause-feeds
returns-in_err-fed-clause-feeds g c =
    let before = c.loop-len.invariant in
    let fed = c.in_err-fed.ensures.feeds in
    let r = err_from_is_err_and c.from_residual.result c.from_residual.ensures.1 in
    rw (r.1, r.2) (record {
      within = tt;
      begun = tt;
      went = tt;
      stopped = no_further c.args.script.now _ _ _ c.args.bytes.now c.loop-len.len _ _ before.went fed.stopped;
      serves = fed.serves;
      stays = Stays-then before.stays fed.stays;
    })

pub loop-len-preserved : goal.loop-len-preserved
loop-len-preserved g c =
    let before = c.loop-len.invariant in
    let fed = c.in_ok-fed.ensures.feeds in
    let below = before.within in
    let few = before.begun in
    let within = fed.within in
    let begun = fed.begun in record {
      went = further c.args.script.now _ _ _ c.args.bytes.now c.loop-len.len c.in_ok-fed.fed.len c.loop-len.begun
          c.in_ok-fed.fed.begun before.went fed.went;
      within = grind (arith, common_steps, below, within);
      begun = omega (arith, few, begun);
      serves = fed.serves;
      stays = Stays-then before.stays fed.stays;
    }
