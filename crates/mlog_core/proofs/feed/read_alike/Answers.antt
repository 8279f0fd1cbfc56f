use Rattle.std.proofs.Common.{refl, ◌∙◌, arith}
use Rattle.std.proofs.lemmas.Grind.{common_steps}
use Rattle.mlog_core.proofs.Alike.{alike_none, alike_further}
use Rattle.mlog_core.proofs.Lines.{not_false}
use Rattle.mlog_core.proofs.feed.read_alike.Goals as goal

pub lines-init : goal.lines-init
lines-init g c = record {
  alike = alike_none c.args.script.now _ _;
  empty = λ e. refl;
  within = grind (arith, common_steps);
  few = grind (arith, common_steps);
  tails = refl;
  fits = c.requires.fits;
}

pub lines-preserved : goal.lines-preserved
lines-preserved g c =
    let front = c.plain_front-front in
    let before = c.lines.invariant in record {
      alike = alike_further c.args.script.now c.now.result _ _ _ c.args.bytes.now _ c.lines.lines.len front.result.len
          c.lines.lines.count c.reach-reach.new.self.chosen c.lines.lines c.reach-reach.result
          refl refl before.empty (c.goes_on.ensures c.if-not-goes_on.false) before.alike front.ensures.plain
          (front.ensures.newline (not_false front.result.ends c.if-not-front.false)) c.now.ensures
          c.reach-reach.ensures.chosen c.reach-reach.ensures.fits (c.requires.bare (grind (arith, common_steps)))
          c.reach-reach.ensures.reach;
      empty = λ e. absurd (omega (arith, e));
      within = grind (arith, common_steps);
      few = let few = before.few in grind (arith, common_steps, few);
      tails = c.reach-reach.ensures.tails ∙ before.tails;
      fits = c.reach-reach.ensures.fits;
    }
