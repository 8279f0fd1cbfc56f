-- What a text does to the files of a log: the names of old files, the removals, and the steps of a cut text.
use Rattle.std.specs.Prelude.{ℕ, ◌+◌, ◌-◌, ◌^◌, min, ◌==◌, nat_le, Bool, ◌&&◌, if◌then◌else◌, List, [], ◌∷◌, ◌++◌}
use Rattle.std.specs.Prelude.{Option, Some, None}
use Rattle.tai_status.specs.Label.{Tai64n, greatest, is_earlier, plus_nano}
use Rattle.tai_status.specs.Lines.{Sent}
use Rattle.mlog_files.specs.Files.{Step, Finish, Remove, appends}

-- The greatest label of an old file that was given or found; how many old files there are; and how many were finished
-- and removed since the log was opened. The last two counts stop at 2^64 - 1.
pub record Marks : Type 0 where
  pub last : Option Tai64n
  pub kept : ℕ
  pub finished : ℕ
  pub removed : ℕ

-- one more, up to the maximum of a count
abbrev pub one_more : ℕ → ℕ
one_more count = min (2 ^ 64 - 1) (count + 1)

abbrev pub is_greatest : Tai64n → Bool
is_greatest label = (label.sec == greatest.sec) && (label.nano == greatest.nano)

-- The label of an old file: the clock reading, or the label after the greatest one so far, if there is one. Therefore
-- no old file is overwritten.
abbrev pub label_given : Option Tai64n → Tai64n → Option Tai64n
label_given None reading = Some reading
label_given (Some last) reading =
    if is_earlier last reading then Some reading else if is_greatest last then None else Some (plus_nano last)

-- finishes a file, and then removes one old file if there are as many as are kept
abbrev pub finish_steps : ℕ → Marks → Tai64n → List Step
finish_steps keep marks label = Finish label ∷ (if nat_le keep (marks.kept + 1) then Remove ∷ [] else [])

abbrev pub marks_after : ℕ → Marks → Tai64n → Marks
marks_after keep marks label = record {
  last = Some label;
  kept = if nat_le keep (marks.kept + 1) then marks.kept else marks.kept + 1;
  finished = one_more marks.finished;
  removed = if nat_le keep (marks.kept + 1) then one_more marks.removed else marks.removed;
}

-- the clock reading of the last byte
abbrev pub last_reading : Tai64n → List Sent → Tai64n
last_reading other [] = other
last_reading other (s ∷ rest) = last_reading s.reading rest

-- The steps for pieces that each fill a file, and for a last piece. Each piece is appended, and finished under the
-- label from the clock reading of its last byte. The steps stop if there is no label.
abbrev pub steps_of : ℕ → Marks → List (List Sent) → List Sent → List Step
steps_of keep marks [] rest = appends rest
steps_of keep marks (piece ∷ pieces) rest = elim (label_given marks.last (last_reading greatest piece)) [
  | None ↦ appends piece
  | Some label ↦
      appends piece ++ finish_steps keep marks label ++ steps_of keep (marks_after keep marks label) pieces rest
]
