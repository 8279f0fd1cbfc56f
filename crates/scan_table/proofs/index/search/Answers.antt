use Rattle.std.proofs.Common.{◌+◌, ◌-◌, ◌/◌, ◌<◌, length, get_or, arith}
use Rattle.std.specs.declared.cmp.Ordering.TheVariants.{Less, Equal, Greater}
use Rattle.scan_table.specs.Index.{names_of}
use Rattle.scan_table.proofs.Searched.{below-more, above-more, order-read}
use Rattle.scan_table.proofs.index.search.Goals as goal

pub loop-low-preserved-in-Less : goal.loop-low-preserved-in-Less
loop-low-preserved-in-Less g c =
    let middle = c.loop-low.low + (c.loop-low.high - c.loop-low.low) / 2 in
    let within : middle < length c.args.index.now = omega arith in
    let place : get_or c.args.index.now middle 0 < length c.args.slots.now =
    (let h = c.requires.index.within middle within in omega (arith, h)) in
    record {
      order = omega arith;
      bound = c.loop-low.invariant.bound;
      below = below-more (names_of c.args.slots.now) c.args.index.now middle c.args.name.now c.requires.index within
          (order-read c.args.slots.now c.args.index.now middle c.index-slots-index.result c.name.result.now
          c.args.name.now c.cmp.result Less
          c.index-slots-index.is place c.name.ensures c.cmp.ensures c.in-Less.is);
      above = c.loop-low.invariant.above;
    }

pub returns-in-Equal : goal.returns-in-Equal
returns-in-Equal g c =
    let middle = c.loop-low.low + (c.loop-low.high - c.loop-low.low) / 2 in
    let within : middle < length c.args.index.now = omega arith in
    let place : get_or c.args.index.now middle 0 < length c.args.slots.now =
    (let h = c.requires.index.within middle within in omega (arith, h)) in (
      within,
      order-read c.args.slots.now c.args.index.now middle c.index-slots-index.result c.name.result.now c.args.name.now
          c.cmp.result Equal
          c.index-slots-index.is place c.name.ensures c.cmp.ensures c.in-Equal.is,
    )

pub loop-low-preserved : goal.loop-low-preserved
loop-low-preserved g c =
    let middle = c.loop-low.low + (c.loop-low.high - c.loop-low.low) / 2 in
    let within : middle < length c.args.index.now = omega arith in
    let place : get_or c.args.index.now middle 0 < length c.args.slots.now =
    (let h = c.requires.index.within middle within in omega (arith, h)) in
    record {
      order = omega arith;
      bound = omega arith;
      below = c.loop-low.invariant.below;
      above = above-more (names_of c.args.slots.now) c.args.index.now middle c.args.name.now c.requires.index
          (order-read c.args.slots.now c.args.index.now middle c.index-slots-index.result c.name.result.now
          c.args.name.now c.cmp.result Greater
          c.index-slots-index.is place c.name.ensures c.cmp.ensures c.in-Greater.is);
    }
