use Rattle.std.proofs.Common.{◌≡◌, length}
use Rattle.std.specs.Option.{option_copied}
use Rattle.sup_core.specs.Fields.{fields_after}
use Rattle.suite_lines.specs.Fields.{are_rows}
use Rattle.suite_lines.proofs.reading.are_rows.Given as goal

-- The fields so far are texts of rows.
abbrev pub invariant-loop-left : goal.invariant-loop-left
invariant-loop-left l = are_rows (fields_after (option_copied l.left))
    ≡ are_rows (fields_after (option_copied l.fn.rest))

abbrev pub decreases-loop-left : goal.decreases-loop-left
decreases-loop-left l = length (fields_after (option_copied l.left))
