-- How a log continues, byte by byte. The law `steps_of_a_text` says that these are the steps of the text's cut.
use Rattle.std.specs.Prelude.{ℕ, ◌+◌, ◌==◌, nat_le, if◌then◌else◌, List, [], ◌∷◌, ◌++◌, Option, Some, None}
use Rattle.tai_status.specs.Label.{Tai64n}
use Rattle.tai_status.specs.Lines.{Sent}
use Rattle.mlog_files.specs.Cut.{fills}
use Rattle.mlog_files.specs.Files.{Step, Append}
use Rattle.mlog_files.specs.Steps.{Marks, label_given, finish_steps, marks_after}

-- the state of a log's end: how many bytes the current file has, and the marks
pub record Standing : Type 0 where
  pub count : ℕ
  pub marks : Marks

-- the steps of finishing a file under this label, if there is one
abbrev pub finish_under : ℕ → Marks → Option Tai64n → List Step
finish_under keep marks None = []
finish_under keep marks (Some label) = finish_steps keep marks label

-- the state of a log after it finished a file under a label
abbrev pub begun : ℕ → Marks → Tai64n → Standing
begun keep marks label = record { count = 0; marks = marks_after keep marks label }

-- the same, if there is a label; without one there is no state, since the log stops
abbrev pub stands_under : ℕ → Marks → Option Tai64n → Option Standing
stands_under keep marks None = None
stands_under keep marks (Some label) = Some (begun keep marks label)

abbrev pub finish_at : ℕ → Marks → Tai64n → List Step
finish_at keep marks reading = finish_under keep marks (label_given marks.last reading)

abbrev pub finished_at : ℕ → Marks → Tai64n → Option Standing
finished_at keep marks reading = stands_under keep marks (label_given marks.last reading)

-- The steps of a rotation: the current file is finished, under the label from a clock reading. An empty file is left
-- alone.
abbrev pub rotate_steps : ℕ → Standing → Tai64n → List Step
rotate_steps keep log reading = if log.count == 0 then [] else finish_at keep log.marks reading

-- the state of the log after a rotation
abbrev pub rotated : ℕ → Standing → Tai64n → Option Standing
rotated keep log reading = if log.count == 0 then Some log else finished_at keep log.marks reading

-- A byte is appended. If the file is then full, it is finished.
abbrev pub byte_steps : ℕ → ℕ → Option Standing → Sent → List Step
byte_steps size keep None s = []
byte_steps size keep (Some log) s =
    if fills size (log.count + 1) (s.byte == 10) then Append s.byte ∷ finish_at keep log.marks s.reading
    else Append s.byte ∷ []

abbrev pub after_byte : ℕ → ℕ → Option Standing → Sent → Option Standing
after_byte size keep None s = None
after_byte size keep (Some log) s =
    if fills size (log.count + 1) (s.byte == 10) then finished_at keep log.marks s.reading
    else Some (record { count = log.count + 1; marks = log.marks })

-- A file that already has its size or more is finished before the byte.
abbrev pub first_steps : ℕ → ℕ → Standing → Tai64n → List Step
first_steps size keep log reading = if nat_le size log.count then finish_at keep log.marks reading else []

abbrev pub ready : ℕ → ℕ → Standing → Tai64n → Option Standing
ready size keep log reading = if nat_le size log.count then finished_at keep log.marks reading else Some log

-- the steps for a text
abbrev pub steps_on : ℕ → ℕ → Option Standing → List Sent → List Step
steps_on size keep None text = []
steps_on size keep (Some log) [] = []
steps_on size keep (Some log) (s ∷ text) =
    first_steps size keep log s.reading
    ++ byte_steps size keep (ready size keep log s.reading) s
    ++ steps_on size keep (after_byte size keep (ready size keep log s.reading) s) text

-- the state of a log after a text
abbrev pub standing_on : ℕ → ℕ → Option Standing → List Sent → Option Standing
standing_on size keep None text = None
standing_on size keep (Some log) [] = Some log
standing_on size keep (Some log) (s ∷ text) =
    standing_on size keep (after_byte size keep (ready size keep log s.reading) s) text
