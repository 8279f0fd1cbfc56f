use Rattle.std.proofs.Common.{sym, arith}
use Rattle.std.specs.declared.cmp.Ordering.TheVariants.{Less, Equal, Greater}
use Rattle.scan_table.proofs.Rows.{order-reported, order-more, order-none, rising-more}
use Rattle.scan_table.proofs.row.check_order.Goals as goal

pub returns-in-Equal-clause-exact : goal.returns-in-Equal-clause-exact
returns-in-Equal-clause-exact g c =
    sym (order-reported c.args.rows.now c.loop-place.place c.index-rows-place.result
    c.index-rows-place-in-loop-place.result
    c.name.result.now c.name-in-loop-place.result.now c.cmp.result Equal
    c.loop-place.invariant.above c.loop-place-test.true c.index-rows-place.is c.index-rows-place-in-loop-place.is
    c.name.ensures c.name-in-loop-place.ensures c.cmp.ensures c.in-Equal.is c.loop-place.invariant.left)

pub returns-in-Greater-clause-exact : goal.returns-in-Greater-clause-exact
returns-in-Greater-clause-exact g c =
    sym (order-reported c.args.rows.now c.loop-place.place c.index-rows-place.result
    c.index-rows-place-in-loop-place.result
    c.name.result.now c.name-in-loop-place.result.now c.cmp.result Greater
    c.loop-place.invariant.above c.loop-place-test.true c.index-rows-place.is c.index-rows-place-in-loop-place.is
    c.name.ensures c.name-in-loop-place.ensures c.cmp.ensures c.in-Greater.is c.loop-place.invariant.left)

pub returns-clause-exact : goal.returns-clause-exact
returns-clause-exact g c = order-none c.args.rows.now c.loop-place.place (omega arith) c.loop-place.invariant.left

pub loop-place-preserved : goal.loop-place-preserved
loop-place-preserved g c =
    record {
      above = omega arith;
      rising = rising-more c.args.rows.now c.loop-place.place c.index-rows-place.result
          c.index-rows-place-in-loop-place.result c.name.result.now c.name-in-loop-place.result.now c.cmp.result
          c.loop-place.invariant.above c.loop-place-test.true c.index-rows-place.is c.index-rows-place-in-loop-place.is
          c.name.ensures c.name-in-loop-place.ensures c.cmp.ensures c.in-Less.is c.loop-place.invariant.rising;
      left = order-more c.args.rows.now c.loop-place.place c.index-rows-place-in-loop-place.result
          c.loop-place-test.true c.index-rows-place-in-loop-place.is
          (order-reported c.args.rows.now c.loop-place.place c.index-rows-place.result
          c.index-rows-place-in-loop-place.result c.name.result.now c.name-in-loop-place.result.now c.cmp.result
          Less
          c.loop-place.invariant.above c.loop-place-test.true c.index-rows-place.is c.index-rows-place-in-loop-place.is
          c.name.ensures c.name-in-loop-place.ensures c.cmp.ensures c.in-Less.is c.loop-place.invariant.left);
    }
