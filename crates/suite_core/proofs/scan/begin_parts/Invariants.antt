use Rattle.std.proofs.Common.{◌≡◌, ◌++◌, map, drop}
use Rattle.suite_core.specs.Suite.{beginning, begun_part, begun_out}
use Rattle.suite_core.proofs.scan.begin_parts.Given as goal

-- the parts so far have begun, and what they ask for is added
abbrev pub invariant-loop-id : goal.invariant-loop-id
invariant-loop-id g l = record {
  parts : l.parts.items
      ++ map (begun_part l.capacity l.label) (map (beginning l.table.slots l.rows) (drop l.id-index l.ids))
      ≡ map (begun_part l.capacity l.label) (map (beginning l.table.slots l.rows) l.ids);
  begun : l.begun.items ++ map (begun_out l.label) (map (beginning l.table.slots l.rows) (drop l.id-index l.ids))
      ≡ l.fn.begun.items ++ map (begun_out l.label) (map (beginning l.table.slots l.rows) l.ids);
}
