use Rattle.std.proofs.Common.{◌<◌, length, get_or, arith}
use Rattle.std.specs.declared.cmp.Ordering.TheVariants.{Less, Equal, Greater}
use Rattle.scan_table.specs.Index.{names_of}
use Rattle.scan_table.proofs.Searched.{below-more, above-more, order-read}
use Rattle.scan_table.proofs.index.seek.Goals as goal

pub loop-at-preserved : goal.loop-at-preserved
loop-at-preserved g c =
    let within : c.loop-at.at < length c.args.index.now = omega arith in
    let place : get_or c.args.index.now c.loop-at.at 0 < length c.args.slots.now =
    (let h = c.requires.index.within c.loop-at.at within in omega (arith, h)) in
    below-more (names_of c.args.slots.now) c.args.index.now c.loop-at.at c.args.name.now c.requires.index within
    (order-read c.args.slots.now c.args.index.now c.loop-at.at c.index-slots-index.result c.name.result.now
    c.args.name.now c.cmp.result Less
    c.index-slots-index.is place c.name.ensures c.cmp.ensures c.in-Less.is)

pub returns-in-Equal : goal.returns-in-Equal
returns-in-Equal g c =
    let within : c.loop-at.at < length c.args.index.now = omega arith in
    let place : get_or c.args.index.now c.loop-at.at 0 < length c.args.slots.now =
    (let h = c.requires.index.within c.loop-at.at within in omega (arith, h)) in (
      within,
      order-read c.args.slots.now c.args.index.now c.loop-at.at c.index-slots-index.result c.name.result.now
          c.args.name.now c.cmp.result Equal
          c.index-slots-index.is place c.name.ensures c.cmp.ensures c.in-Equal.is,
    )

pub returns-in-Greater : goal.returns-in-Greater
returns-in-Greater g c =
    let within : c.loop-at.at < length c.args.index.now = omega arith in
    let place : get_or c.args.index.now c.loop-at.at 0 < length c.args.slots.now =
    (let h = c.requires.index.within c.loop-at.at within in omega (arith, h)) in (
      omega arith,
      c.loop-at.invariant,
      above-more (names_of c.args.slots.now) c.args.index.now c.loop-at.at c.args.name.now c.requires.index
          (order-read c.args.slots.now c.args.index.now c.loop-at.at c.index-slots-index.result c.name.result.now
          c.args.name.now c.cmp.result Greater
          c.index-slots-index.is place c.name.ensures c.cmp.ensures c.in-Greater.is),
    )

pub returns : goal.returns
returns g c = (
  omega arith,
  λ k below. c.loop-at.invariant k (omega arith),
  λ k above within. absurd (omega arith),
)
