-- Facts about how texts continue a log.
use Rattle.std.specs.Prelude.{◌≡◌, ℕ, ◌+◌, ◌-◌, ◌^◌, ◌<◌, ◌≤◌, min, count_by, List, ◌∷◌, ◌++◌, Option, Some}
use Rattle.tai_status.specs.Lines.{Sent}
use Rattle.mlog_files.specs.Cut.{IsCut}
use Rattle.mlog_files.specs.Files.{Step, is_finish, is_remove}
use Rattle.mlog_files.specs.Steps.{Marks, steps_of}
use Rattle.mlog_files.specs.Going.{Standing, finish_at, finished_at, steps_on, standing_on}

-- a cut of a text
pub record HasCut (size n : ℕ) (text : List Sent) : Type 0 where
  pub pieces : List (List Sent)
  pub rest : List Sent
  pub is_cut : IsCut size n text pieces rest

-- Each text has a cut.
abbrev pub EachIsCut : Type 0
EachIsCut = (size n : ℕ) (text : List Sent) → HasCut size n text

-- A log that has room in its current file continues by the steps of the text's cut.
abbrev pub GoesByItsCut : Type 0
GoesByItsCut = (size keep : ℕ) (log : Standing) (text : List Sent) (pieces : List (List Sent)) (rest : List Sent)
    → log.count < size → IsCut size log.count text pieces rest
    → steps_on size keep (Some log) text ≡ steps_of keep log.marks pieces rest

-- A current file that already has its size or more is finished first, as it is, under the label from the text's first
-- reading. The text goes into a new file.
abbrev pub FinishesAnOverfull : Type 0
FinishesAnOverfull = (size keep : ℕ) (log : Standing) (s : Sent) (text : List Sent) → 0 < size → size ≤ log.count
    → steps_on size keep (Some log) (s ∷ text)
    ≡ finish_at keep log.marks s.reading ++ steps_on size keep (finished_at keep log.marks s.reading) (s ∷ text)

-- A text in two parts continues a log as one text does: by the steps of the first part, and then those of the second.
abbrev pub GoesInTurn : Type 0
GoesInTurn = (size keep : ℕ) (log : Option Standing) (xs ys : List Sent)
    → (steps_on size keep log (xs ++ ys)
    ≡ steps_on size keep log xs ++ steps_on size keep (standing_on size keep log xs) ys)
    × (standing_on size keep log (xs ++ ys) ≡ standing_on size keep (standing_on size keep log xs) ys)

-- The marks count the finished and the removed files of some steps, up to the maximum of a count.
pub record CountsSteps (old new : Marks) (steps : List Step) : Type 0 where
  pub finished : new.finished ≡ min (2 ^ 64 - 1) (old.finished + count_by is_finish steps)
  pub removed : new.removed ≡ min (2 ^ 64 - 1) (old.removed + count_by is_remove steps)

-- After a text, the marks of a log count the steps of the text.
abbrev pub CountsItsSteps : Type 0
CountsItsSteps = (size keep : ℕ) (log end : Standing) (text : List Sent)
    → log.marks.finished < 2 ^ 64 → log.marks.removed < 2 ^ 64
    → standing_on size keep (Some log) text ≡ Some end
    → CountsSteps log.marks end.marks (steps_on size keep (Some log) text)
