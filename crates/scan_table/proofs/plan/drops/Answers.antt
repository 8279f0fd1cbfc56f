use Rattle.std.proofs.Common.{◌∙◌, ◌++◌, ◌∷◌, [], ℕ, sym, ap, refl}
use Rattle.scan_table.proofs.Dropped.{dropped-next, kept-next}
use Rattle.scan_table.proofs.plan.drops.Goals as goal
use Rattle.scan_table.proofs.plan.drops.Goals.{then-is_dropped+in_ok-push, else-is_dropped}

pub loop-slot-preserved : goal.loop-slot-preserved
loop-slot-preserved g c =
    elim c.if-is_dropped.branch [
      | then-is_dropped+in_ok-push w ↦ dropped-next c.args.slots.now c.args.rows.now c.loop-slot.slot-index
          c.slot-item.result c.loop-slot.numbers.items c.if-is_dropped.numbers.items _
          c.loop-slot-test.true c.slot-item.is (sym c.is_dropped.ensures ∙ w.if-is_dropped.true)
          (rw w.numbers-is (w.in_ok-push.ensures.items
          ∙ ap (λ (n : ℕ). c.loop-slot.numbers.items ++ n ∷ []) w.number.ensures)) c.loop-slot.invariant
      | else-is_dropped w ↦ kept-next c.args.slots.now c.args.rows.now c.loop-slot.slot-index c.slot-item.result
          c.loop-slot.numbers.items c.if-is_dropped.numbers.items _
          c.loop-slot-test.true c.slot-item.is (sym c.is_dropped.ensures ∙ w.if-is_dropped.false) (rw w.numbers-is refl)
          c.loop-slot.invariant
    ]
