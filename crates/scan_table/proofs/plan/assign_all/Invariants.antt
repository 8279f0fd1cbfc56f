use Rattle.std.proofs.Common.{◌≡◌, ℕ, ◌<◌, get_or, ◌++◌, ◌+◌, ◌≤◌, take, drop, length, map}
use Rattle.std.specs.List.{sum_by}
use Rattle.scan_table.specs.Slots.{Row, eligible}
use Rattle.scan_table.specs.Index.{names_of, ArePassed}
use Rattle.scan_table.specs.Scan.{need, needs, new_rows, in_turn, new_slots_at, restarts_at, new_slots, restarts}
use Rattle.scan_table.proofs.plan.assign_all.Given as goal

-- the new names so far are counted; what was given so far and what is left make the whole
abbrev pub invariant-loop-row : goal.invariant-loop-row
invariant-loop-row g l = record {
  at : l.at ≤ length l.index;
  passed : (j : ℕ) (d : Row) → l.row-index ≤ j → j < length l.rows
      → ArePassed (names_of l.slots) l.index l.at (get_or l.rows j d).name;
  made : l.assigned.made ≡ length (new_rows l.slots (take l.row-index l.rows));
  bound : l.assigned.made ≤ l.row-index;
  number : l.assigned.number + sum_by (need l.slots l.rows) (eligible (drop l.row-index l.rows))
      ≡ l.next + needs l.slots l.rows;
  slots : l.assigned.slots.items ++ in_turn (need l.slots l.rows) (new_slots_at l.slots l.rows) l.assigned.number
      (eligible (drop l.row-index l.rows)) ≡ new_slots l.slots l.next l.rows;
  restarts : l.assigned.restarts.items ++ in_turn (need l.slots l.rows) (restarts_at l.slots l.rows) l.assigned.number
      (eligible (drop l.row-index l.rows)) ≡ restarts l.slots l.next l.rows;
  refused : l.assigned.refused.items
      ≡ map (λ (row : Row). row.name) (drop l.room (new_rows l.slots (take l.row-index l.rows)));
}
