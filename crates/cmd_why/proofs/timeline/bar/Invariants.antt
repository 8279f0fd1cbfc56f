use Rattle.std.proofs.Common.{◌≡◌, length}
use Rattle.std.specs.List.{flat_map, range_with_len}
use Rattle.cmd_why.specs.Timeline.{column_sign}
use Rattle.cmd_why.proofs.timeline.bar.Given as goal

-- the columns so far
abbrev pub invariant-loop-column : goal.invariant-loop-column
invariant-loop-column l = record {
  signs : l.bar.bytes ≡ flat_map (column_sign l.from l.width l.drawn) (range_with_len 0 l.column);
  count : length l.bar.bytes ≡ l.column;
}
