use Rattle.std.proofs.Common.{◌∷◌, [], sym, subst, get_or}
use Rattle.std.specs.List.{AllPairs}
use Rattle.scan_table.specs.declared.part.Role.TheVariants.{Main}
use Rattle.scan_table.specs.declared.part.PartId.{PartId}
use Rattle.scan_table.specs.Index.{IsBefore}
use Rattle.scan_table.proofs.Placed.{renewed-next, renewed-last, renewed-rising}
use Rattle.scan_table.proofs.place.restart_all.Goals as goal

-- the default for places past the end of the parts
abbrev past : PartId
past = record { slot = 0; role = Main; life = 0 }

pub loop-part-preserved : goal.loop-part-preserved
loop-part-preserved g c =
    record {
      rising = subst (λ slots. AllPairs IsBefore slots) (sym c.restart.ensures)
          (renewed-rising (get_or c.args.parts.now c.loop-part.part-index past ∷ []) c.loop-part.slots
          c.loop-part.invariant.rising);
      left = renewed-next c.args.parts.now c.loop-part.part-index past c.loop-part.slots c.restart.new.slots _
          c.loop-part-test.true c.restart.ensures c.loop-part.invariant.left;
    }

pub returns : goal.returns
returns g c = renewed-last c.args.parts.now c.loop-part.part-index c.loop-part.slots _ c.loop-part-test.false
    c.loop-part.invariant.left
