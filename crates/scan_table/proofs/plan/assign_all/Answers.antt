use Rattle.std.proofs.Common.{sym, subst, ◌≤◌, arith}
use Rattle.scan_table.proofs.Turns.{needs-turned, new-turned, one-more, slots-turned, restarts-turned, refused-turned}
use Rattle.scan_table.proofs.Turns.{fits-turn, number-turn}
use Rattle.scan_table.specs.Slots.{Row}
use Rattle.scan_table.specs.Index.{names_of, ArePassed}
use Rattle.scan_table.proofs.Searched.{passed-on}
use Rattle.scan_table.proofs.plan.assign_all.Goals as goal

pub assign-requires-clause-fits : goal.assign-requires-clause-fits
assign-requires-clause-fits g c =
    fits-turn c.loop-row.assigned.number _ _ _ _
    (needs-turned c.args.slots.now c.args.rows.now c.loop-row.row-index c.loop-row.assigned.made c.args.room
    c.row-item.result c.row-item.result
    c.loop-row-test.true c.requires.rising (sym c.row-item.is) c.loop-row.invariant.made c.requires.room)
    c.loop-row.invariant.number c.requires.numbers

pub loop-row-preserved : goal.loop-row-preserved
loop-row-preserved g c = record {
  at = c.in_ok-assign.ensures.at;
  passed = passed-on (names_of c.args.slots.now) c.args.index.now c.assign.new.at c.args.rows.now c.loop-row.row-index
      c.row-item.result
      c.requires.rising c.loop-row-test.true c.row-item.is c.in_ok-assign.ensures.passed;
  made = new-turned c.args.slots.now c.args.rows.now c.loop-row.row-index c.loop-row.assigned.made
      c.assign.new.self.made c.row-item.result c.row-item.result
      c.loop-row-test.true (sym c.row-item.is) c.loop-row.invariant.made c.in_ok-assign.ensures.made;
  bound = one-more c.args.slots.now c.row-item.result c.loop-row.assigned.made c.assign.new.self.made
      c.loop-row.row-index c.loop-row.invariant.bound c.in_ok-assign.ensures.made;
  number = number-turn c.loop-row.assigned.number c.assign.new.self.number _ _ _ _
      (needs-turned c.args.slots.now c.args.rows.now c.loop-row.row-index c.loop-row.assigned.made c.args.room
      c.row-item.result c.row-item.result
      c.loop-row-test.true c.requires.rising (sym c.row-item.is) c.loop-row.invariant.made c.requires.room)
      c.loop-row.invariant.number c.in_ok-assign.ensures.number;
  slots = slots-turned c.args.slots.now c.args.rows.now c.loop-row.assigned.number c.assign.new.self.number
      c.loop-row.row-index c.loop-row.assigned.made c.args.room c.row-item.result c.row-item.result
      c.loop-row.assigned.slots.items c.assign.new.self.slots.items _
      c.loop-row-test.true c.requires.rising (sym c.row-item.is) c.loop-row.invariant.made c.requires.room
      c.in_ok-assign.ensures.number
      c.loop-row.invariant.slots c.in_ok-assign.ensures.slots;
  restarts = restarts-turned c.args.slots.now c.args.rows.now c.loop-row.assigned.number c.assign.new.self.number
      c.loop-row.row-index c.loop-row.assigned.made c.args.room c.row-item.result c.row-item.result
      c.loop-row.assigned.restarts.items c.assign.new.self.restarts.items _
      c.loop-row-test.true c.requires.rising (sym c.row-item.is) c.loop-row.invariant.made c.requires.room
      c.in_ok-assign.ensures.number
      c.loop-row.invariant.restarts c.in_ok-assign.ensures.restarts;
  refused = refused-turned c.args.slots.now c.args.rows.now c.loop-row.row-index c.loop-row.assigned.made c.args.room
      c.row-item.result c.row-item.result
      c.loop-row.assigned.refused.items c.assign.new.self.refused.items
      c.loop-row-test.true (sym c.row-item.is) c.loop-row.invariant.made c.requires.room
      c.loop-row.invariant.refused c.in_ok-assign.ensures.refused;
}

pub assign-requires-clause-passed : goal.assign-requires-clause-passed
assign-requires-clause-passed g c =
    let next : c.loop-row.row-index ≤ c.loop-row.row-index = omega arith in
    subst (λ (row : Row). ArePassed (names_of c.args.slots.now) c.args.index.now c.loop-row.at row.name)
    (sym c.row-item.is)
    (c.loop-row.invariant.passed c.loop-row.row-index c.row-item.result next c.loop-row-test.true)
