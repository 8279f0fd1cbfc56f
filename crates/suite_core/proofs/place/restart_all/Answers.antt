use Rattle.std.proofs.Common.{sym, subst, arith}
use Rattle.std.specs.Vec.Iter.{into_iter_items}
use Rattle.suite_core.specs.Places.{AreRising}
use Rattle.suite_core.proofs.Placed.{restarted-rising, restarted-step, restarted-end}
use Rattle.suite_core.proofs.place.restart_all.Goals as goal

pub loop-new-preserved : goal.loop-new-preserved
loop-new-preserved g c = record {
  can = tt;
  finite = tt;
  rising = subst (λ parts. AreRising parts) (sym c.restart.ensures)
      (restarted-rising c.in-Some.new c.loop-new.parts c.loop-new.invariant.rising);
  left = restarted-step _ _ c.in-Some.new c.loop-new.parts c.restart.new.parts _ c.in-Some.ensures.steps.0
      c.restart.ensures c.loop-new.invariant.left;
}

pub returns : goal.returns
returns g c = restarted-end (into_iter_items c.loop-new.new-iterator) c.loop-new.parts _
    (omega (arith, c.in-None.ensures.steps.0, c.loop-new.new-iterator.rest.ok.0)) c.loop-new.invariant.left
