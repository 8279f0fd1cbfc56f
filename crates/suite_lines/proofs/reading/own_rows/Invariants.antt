use Rattle.std.proofs.Common.{◌≡◌, ◌++◌, true, length}
use Rattle.std.specs.Prelude.{option_map}
use Rattle.std.specs.Option.{option_copied}
use Rattle.sup_core.specs.Fields.{fields_after}
use Rattle.suite_lines.specs.Reading.{rows_of_texts}
use Rattle.suite_lines.specs.Fields.{are_rows}
use Rattle.suite_lines.proofs.reading.own_rows.Given as goal

-- The fields left are texts of rows. These come after the rows so far.
abbrev pub invariant-loop-left : goal.invariant-loop-left
invariant-loop-left g l = record {
  right : are_rows (fields_after (option_copied l.left)) ≡ true;
  rows : option_map (λ later. l.rows.items ++ later) (rows_of_texts (fields_after (option_copied l.left)))
      ≡ rows_of_texts (fields_after (option_copied l.fn.rest));
}

abbrev pub decreases-loop-left : goal.decreases-loop-left
decreases-loop-left g l = length (fields_after (option_copied l.left))
