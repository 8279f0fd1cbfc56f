-- The parts of a line, in the order in which they are read. Only private functions use these words. The result of
-- reading a line is defined in specs/Reading and specs/Answers.
use Rattle.std.specs.Prelude.{Bool, ℕ, List, [], Option, Some, None, is_some}
use Rattle.suite_lines.specs.Reading.{dotted, rows_of_texts}

-- the fields after a dot, if there is one
abbrev pub dotted_after : Option (List ℕ) → List (List ℕ)
dotted_after None = []
dotted_after (Some rest) = dotted rest

-- whether each of these is the text of a row
abbrev pub are_rows : List (List ℕ) → Bool
are_rows texts = is_some (rows_of_texts texts)
