use Rattle.std.proofs.Common.{arith}
use Rattle.suite_core.proofs.Placed.{none-at, read-place, read-other}
use Rattle.suite_core.proofs.place.place_of.Goals as goal
use Rattle.suite_core.proofs.place.place_of.Goals.{else-place-parts-via-then-place-parts+else-is_place}
use Rattle.suite_core.proofs.place.place_of.Goals.{else-place-parts-via-else-place-parts}

pub returns-then-is_place : goal.returns-then-is_place
returns-then-is_place g c =
    read-place c.args.parts.now c.edge-place.result c.index-parts-place.result c.args.id c.id.result c.is_place.result
    c.if-place-parts.true c.index-parts-place.is c.id.ensures c.is_place.ensures c.if-is_place.true

pub returns-else-place-parts : goal.returns-else-place-parts
returns-else-place-parts g c =
    none-at c.args.parts.now c.args.id c.edge-place.result c.edge-place.ensures c.requires
    (elim c.else-place-parts.branch [
      | else-place-parts-via-then-place-parts+else-is_place w ↦ λ within.
          read-other c.args.parts.now c.edge-place.result w.index-parts-place.result c.args.id w.id.result
          w.is_place.result within w.index-parts-place.is w.id.ensures w.is_place.ensures w.if-is_place.false
      | else-place-parts-via-else-place-parts w ↦ λ within. absurd (omega (arith, within, w.if-place-parts.false))
    ])
