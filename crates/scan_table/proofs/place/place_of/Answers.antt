use Rattle.std.proofs.Common.{◌+◌, ◌-◌, ◌/◌, ◌<◌, length, arith}
use Rattle.scan_table.proofs.Searched.{number-below, number-above, number-read}
use Rattle.scan_table.proofs.place.place_of.Goals as goal

pub loop-low-preserved-then-here-number-2 : goal.loop-low-preserved-then-here-number-2
loop-low-preserved-then-here-number-2 g c =
    let middle = c.loop-low.low + (c.loop-low.high - c.loop-low.low) / 2 in
    let within : middle < length c.args.slots.now = omega arith in
    record {
      order = omega arith;
      bound = c.loop-low.invariant.bound;
      below = number-below c.args.slots.now middle c.args.number c.number-here.result c.requires within
          (number-read c.args.slots.now middle c.index-slots-middle.result c.number-here.result within
          c.index-slots-middle.is c.number-here.ensures) c.if-here-number-2.true;
      above = c.loop-low.invariant.above;
    }

pub loop-low-preserved : goal.loop-low-preserved
loop-low-preserved g c =
    let middle = c.loop-low.low + (c.loop-low.high - c.loop-low.low) / 2 in
    let within : middle < length c.args.slots.now = omega arith in
    record {
      order = omega arith;
      bound = omega arith;
      below = c.loop-low.invariant.below;
      above = number-above c.args.slots.now middle c.args.number c.number-here.result c.requires
          (number-read c.args.slots.now middle c.index-slots-middle.result c.number-here.result within
          c.index-slots-middle.is c.number-here.ensures) (omega arith);
    }
