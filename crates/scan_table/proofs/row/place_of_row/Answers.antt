use Rattle.std.proofs.Common.{◌+◌, ◌-◌, ◌/◌, ◌<◌, length, arith, refl}
use Rattle.std.specs.declared.cmp.Ordering.TheVariants.{Less, Equal, Greater}
use Rattle.scan_table.proofs.Rows.{row-read, rows-below, rows-above, row-nowhere}
use Rattle.scan_table.proofs.row.place_of_row.Goals as goal

pub loop-low-preserved-in-Less : goal.loop-low-preserved-in-Less
loop-low-preserved-in-Less g c =
    let middle = c.loop-low.low + (c.loop-low.high - c.loop-low.low) / 2 in
    let within : middle < length c.args.rows.now = omega arith in
    record {
      order = omega arith;
      bound = c.loop-low.invariant.bound;
      below = rows-below c.args.rows.now middle c.args.name.now c.requires within
          (row-read c.args.rows.now middle c.index-rows-middle.result c.name.result.now c.args.name.now c.args.name.now
          c.cmp.result Less
          within c.index-rows-middle.is c.name.ensures refl c.cmp.ensures c.in-Less.is);
      above = c.loop-low.invariant.above;
    }

pub returns-in-Equal : goal.returns-in-Equal
returns-in-Equal g c =
    let middle = c.loop-low.low + (c.loop-low.high - c.loop-low.low) / 2 in
    let within : middle < length c.args.rows.now = omega arith in
    record {
      within = within;
      here = row-read c.args.rows.now middle c.index-rows-middle.result c.name.result.now c.args.name.now
          c.args.name.now c.cmp.result Equal
          within c.index-rows-middle.is c.name.ensures refl c.cmp.ensures c.in-Equal.is;
    }

pub loop-low-preserved : goal.loop-low-preserved
loop-low-preserved g c =
    let middle = c.loop-low.low + (c.loop-low.high - c.loop-low.low) / 2 in
    let within : middle < length c.args.rows.now = omega arith in
    record {
      order = omega arith;
      bound = omega arith;
      below = c.loop-low.invariant.below;
      above = rows-above c.args.rows.now middle c.args.name.now c.requires
          (row-read c.args.rows.now middle c.index-rows-middle.result c.name.result.now c.args.name.now c.args.name.now
          c.cmp.result Greater
          within c.index-rows-middle.is c.name.ensures refl c.cmp.ensures c.in-Greater.is);
    }

pub returns : goal.returns
returns g c =
    row-nowhere c.args.rows.now c.args.name.now c.loop-low.low c.loop-low.high c.loop-low-test.false
    c.loop-low.invariant.below c.loop-low.invariant.above
