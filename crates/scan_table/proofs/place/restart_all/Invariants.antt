use Rattle.std.proofs.Common.{◌≡◌, map, drop}
use Rattle.std.specs.List.{AllPairs}
use Rattle.scan_table.specs.Table.{renewed}
use Rattle.scan_table.specs.Index.{IsBefore}
use Rattle.scan_table.proofs.place.restart_all.Given as goal

-- with the parts that are left, the slots become what they become with all parts
abbrev pub invariant-loop-part : goal.invariant-loop-part
invariant-loop-part g l = record {
  rising : AllPairs IsBefore l.slots;
  left : map (renewed (drop l.part-index l.parts)) l.slots ≡ map (renewed l.parts) l.fn.slots;
}
