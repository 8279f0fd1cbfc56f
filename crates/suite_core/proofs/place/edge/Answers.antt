use Rattle.std.proofs.Common.{◌+◌, ◌-◌, ◌/◌, ◌<◌, length, arith}
use Rattle.suite_core.proofs.Placed.{before-edge, after-edge, read-before, read-after}
use Rattle.suite_core.proofs.place.edge.Goals as goal

pub loop-low-preserved-then-is_before : goal.loop-low-preserved-then-is_before
loop-low-preserved-then-is_before g c =
    let middle = c.loop-low.low + (c.loop-low.high - c.loop-low.low) / 2 in
    let within : middle < length c.args.parts.now = omega arith in
    record {
      order = omega arith;
      bound = c.loop-low.invariant.bound;
      before = before-edge c.args.parts.now c.args.id middle c.requires within
          (read-before c.args.parts.now middle c.index-parts-middle.result c.args.id c.id.result c.is_before.result
          within c.index-parts-middle.is c.id.ensures c.is_before.ensures c.if-is_before.true);
      after = c.loop-low.invariant.after;
    }

pub loop-low-preserved : goal.loop-low-preserved
loop-low-preserved g c =
    let middle = c.loop-low.low + (c.loop-low.high - c.loop-low.low) / 2 in
    let within : middle < length c.args.parts.now = omega arith in
    record {
      order = omega arith;
      bound = omega arith;
      before = c.loop-low.invariant.before;
      after = after-edge c.args.parts.now c.args.id middle c.requires
          (read-after c.args.parts.now middle c.index-parts-middle.result c.args.id c.id.result c.is_before.result
          within c.index-parts-middle.is c.id.ensures c.is_before.ensures c.if-is_before.false);
    }
