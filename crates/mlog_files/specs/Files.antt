-- The files of a log, and what is done to them.
use Rattle.std.specs.Prelude.{ℕ, Bool, true, false, if◌then◌else◌, List, [], ◌∷◌, ◌++◌, map, drop, codes}
use Rattle.std.specs.Cmp.Lexicographic.{slice_cmp}
use Rattle.std.specs.Ordering.{is_lt, nat_cmp}
use Rattle.tai_status.specs.Label.{Tai64n, label_text}
use Rattle.tai_status.specs.Lines.{Sent}

-- an old file
pub record Old : Type 0 where
  pub name : List ℕ
  pub bytes : List ℕ

-- the files of a log: the current one, and the old ones in byte order of their names
pub record Files : Type 0 where
  pub current : List ℕ
  pub olds : List Old

-- One step: a byte is appended to the current file; the current file becomes the old file of this label, and a new one
-- begins; or the old file with the smallest name is removed.
pub data Step : Type 0 where
  Append : ℕ → Step
  Finish : Tai64n → Step
  Remove : Step

abbrev pub is_finish : Step → Bool
is_finish (Append byte) = false
is_finish (Finish label) = true
is_finish Remove = false

abbrev pub is_remove : Step → Bool
is_remove (Append byte) = false
is_remove (Finish label) = false
is_remove Remove = true

-- the name of the old file of a label: its text, and `.s`
abbrev pub old_name : Tai64n → List ℕ
old_name label = label_text label ++ codes ".s"

-- the old files with one more, which comes before the first name that is not smaller
abbrev pub with_old : Old → List Old → List Old
with_old old [] = old ∷ []
with_old old (first ∷ olds) =
    if is_lt (slice_cmp nat_cmp first.name old.name) then first ∷ with_old old olds else old ∷ first ∷ olds

abbrev pub step_files : Step → Files → Files
step_files (Append byte) files = record { current = files.current ++ byte ∷ []; olds = files.olds }
step_files (Finish label) files =
    record { current = []; olds = with_old (record { name = old_name label; bytes = files.current }) files.olds }
step_files Remove files = record { current = files.current; olds = drop 1 files.olds }

-- the files after these steps, one after another
abbrev pub files_after : List Step → Files → Files
files_after [] files = files
files_after (step ∷ steps) files = files_after steps (step_files step files)

-- the steps that append these bytes
abbrev pub append_steps : List ℕ → List Step
append_steps bytes = map (λ byte. Append byte) bytes

-- the steps that append this piece
abbrev pub appends : List Sent → List Step
appends piece = map (λ s. Append s.byte) piece
