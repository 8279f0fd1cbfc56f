use Rattle.std.proofs.Common.{arith, subst, ◌≡◌, ◌≤◌, ◌+◌, length, nat_le, slice_index_or, sym, ap, ◌∙◌, take, drop}
use Rattle.std.proofs.Common.{if◌then◌else◌}
use Rattle.std.specs.List.{sum_by}
use Rattle.scan_table.specs.Scan.{need, new_rows, room}
use Rattle.scan_table.specs.Turns.{turn_need, is_counted}
use Rattle.scan_table.proofs.Turns.{row-needs, row-new, past-need, within-need}
use Rattle.scan_table.specs.Slots.{Row, eligible}
use Rattle.scan_table.specs.Index.{names_of, ArePassed}
use Rattle.scan_table.proofs.Searched.{passed-on}
use Rattle.scan_table.proofs.plan.is_exhausted.Goals as goal

pub returns-then-need-left : goal.returns-then-need-left
returns-then-need-left g c =
    let r = row-needs c.args.slots.now c.args.rows.now c.loop-row.row-index c.row-item.result c.loop-row-test.true
    c.requires.rising in
    let e : turn_need c.args.slots.now
    (nat_le (room c.args.slots.now c.args.rows.now)
    (length (new_rows c.args.slots.now (take c.loop-row.row-index c.args.rows.now))))
    (slice_index_or c.args.rows.now c.loop-row.row-index c.row-item.result) ≡ c.turn-need.result.0 =
    rw (sym c.row-item.is, sym c.loop-row.invariant.made, sym c.requires.room) (sym c.turn-need.ensures.need) in
    past-need c.loop-row.left c.turn-need.result.0
    (sum_by (need c.args.slots.now c.args.rows.now) (eligible (drop (c.loop-row.row-index + 1) c.args.rows.now))) _
    (r ∙ ap (λ n. n + sum_by (need c.args.slots.now c.args.rows.now)
    (eligible (drop (c.loop-row.row-index + 1) c.args.rows.now))) e) c.if-need-left.true
    ∙ c.loop-row.invariant.left

pub loop-row-preserved : goal.loop-row-preserved
loop-row-preserved g c =
    let r = row-needs c.args.slots.now c.args.rows.now c.loop-row.row-index c.row-item.result c.loop-row-test.true
    c.requires.rising in
    let e : turn_need c.args.slots.now
    (nat_le (room c.args.slots.now c.args.rows.now)
    (length (new_rows c.args.slots.now (take c.loop-row.row-index c.args.rows.now))))
    (slice_index_or c.args.rows.now c.loop-row.row-index c.row-item.result) ≡ c.turn-need.result.0 =
    rw (sym c.row-item.is, sym c.loop-row.invariant.made, sym c.requires.room) (sym c.turn-need.ensures.need) in
    let n = row-new c.args.slots.now c.args.rows.now c.loop-row.row-index c.row-item.result c.loop-row-test.true in
    let k : (if is_counted c.args.slots.now (slice_index_or c.args.rows.now c.loop-row.row-index c.row-item.result) then
    1 else 0) ≡ c.count-made.result =
    rw (sym c.row-item.is, sym c.turn-need.ensures.new) (sym c.count-made.ensures.count) in
    record {
      at = c.turn-need.ensures.at;
      passed = passed-on (names_of c.args.slots.now) c.args.index.now c.turn-need.new.at c.args.rows.now
          c.loop-row.row-index c.row-item.result
          c.requires.rising c.loop-row-test.true c.row-item.is c.turn-need.ensures.passed;
      made = sym (n ∙ ap (λ m. length (new_rows c.args.slots.now (take c.loop-row.row-index c.args.rows.now)) + m) k
          ∙ ap (λ m. m + c.count-made.result) (sym c.loop-row.invariant.made));
      bound = grind (arith, c.count-made.ensures.bound, c.loop-row.invariant.bound);
      left = within-need c.loop-row.left c.turn-need.result.0
          (sum_by (need c.args.slots.now c.args.rows.now) (eligible (drop (c.loop-row.row-index + 1) c.args.rows.now)))
          _
          (r ∙ ap (λ m. m + sum_by (need c.args.slots.now c.args.rows.now)
          (eligible (drop (c.loop-row.row-index + 1) c.args.rows.now))) e) c.if-need-left.false
          ∙ c.loop-row.invariant.left;
    }

pub turn-need-requires-clause-passed : goal.turn-need-requires-clause-passed
turn-need-requires-clause-passed g c =
    let next : c.loop-row.row-index ≤ c.loop-row.row-index = omega arith in
    subst (λ (row : Row). ArePassed (names_of c.args.slots.now) c.args.index.now c.loop-row.at row.name)
    (sym c.row-item.is)
    (c.loop-row.invariant.passed c.loop-row.row-index c.row-item.result next c.loop-row-test.true)
