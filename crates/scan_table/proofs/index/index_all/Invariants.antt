use Rattle.std.proofs.Common.{◌≡◌, ◌≤◌, length, vec_len, vec_capacity}
use Rattle.scan_table.specs.Index.{names_of, IsIndex}
use Rattle.scan_table.proofs.index.index_all.Given as goal

-- the slots so far are in the index, which has room for all
abbrev pub invariant-loop-place : goal.invariant-loop-place
invariant-loop-place g l = record {
  index : IsIndex (names_of l.slots) l.index.items;
  len : vec_len l.index ≡ l._place;
  room : length l.slots ≤ vec_capacity l.index;
}
