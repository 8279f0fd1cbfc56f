-- The state of a log's end.
use Rattle.std.specs.Prelude.{◌≡◌, ℕ, ◌+◌, ◌-◌, List, ◌++◌, length, Option, Some, None}
use Rattle.tai_status.specs.Counted.{Rose}
use Rattle.tai_status.specs.Label.{Tai64n}
use Rattle.tai_status.specs.Lines.{sent}
use Rattle.mlog_files.specs.Files.{Files, Step, append_steps}
use Rattle.mlog_files.specs.Steps.{Marks}
use Rattle.mlog_files.specs.Going.{Standing, finish_at, finished_at, rotate_steps, rotated, steps_on, standing_on}
use Rattle.mlog_files.specs.Named.{greatest_label}
use Rattle.mlog_files.specs.Store.{StoreState, Does, DoesFront, Goes}
use Rattle.mlog_files.specs.declared.tail.Tail.{Tail}
use Rattle.mlog_files.specs.declared.tail.LogFault.{LogFault}
use Rattle.mlog_files.specs.declared.tail.LogFault.TheVariants as fault

-- the maximum size of a file of the log
abbrev pub size_of : Tail → ℕ
size_of tail = tail.size

-- how many old files the log keeps
abbrev pub keep_of : Tail → ℕ
keep_of tail = tail.keep

-- the bytes that wait in memory
abbrev pub waiting_in : Tail → List ℕ
waiting_in tail = tail.waiting

-- the greatest label of an old file, how many old files there are, and how many were finished and removed
abbrev pub marks_at : Tail → Marks
marks_at tail = record {
  last = tail.last;
  kept = tail.kept;
  finished = tail.finished;
  removed = tail.removed;
}

-- how many bytes the current file has, including those that wait in memory, and the marks
abbrev pub standing : Tail → Standing
standing tail = record { count = tail.count; marks = marks_at tail }

-- the state of a log that was found with these files
abbrev pub found : Files → Standing
found files = record {
  count = length files.current;
  marks = record { last = greatest_label files.olds; kept = length files.olds; finished = 0; removed = 0 };
}

-- the steps for bytes of a line with this reading
abbrev pub steps_at : Tail → Tai64n → List ℕ → List Step
steps_at tail reading bytes = steps_on tail.size tail.keep (Some (standing tail)) (sent reading bytes)

-- the state of the log after them, or none if there was no label for an old file
abbrev pub after_at : Tail → Tai64n → List ℕ → Option Standing
after_at tail reading bytes = standing_on tail.size tail.keep (Some (standing tail)) (sent reading bytes)

-- how many bytes can come, with any values, before the current file can be full
abbrev pub room_in : Tail → ℕ
room_in tail = tail.size - 2000 - tail.count - 1

-- the state of a log with this many more bytes in its current file
abbrev pub longer : Standing → ℕ → Standing
longer log more = record { count = log.count + more; marks = log.marks }

-- A log keeps the size of its files, and the number of old files that it keeps.
pub record SameLimits (tail now : Tail) : Type 0 where
  pub size : size_of now ≡ size_of tail
  pub keep : keep_of now ≡ keep_of tail

-- Bytes of a line with this reading were put. The log went through their steps, except for the bytes that wait, and is
-- in the state after them.
pub record Puts (old new : StoreState) (log : ℕ) (tail now : Tail) (reading : Tai64n) (bytes : List ℕ) : Type 0 where
  pub goes : Goes old new log (waiting_in tail) (waiting_in now) (steps_at tail reading bytes)
  pub stands : after_at tail reading bytes ≡ Some (standing now)

-- A log stopped during some steps: a prefix of them is done. Either the store failed, and the failure is counted; or
-- there is no label for an old file, and all steps before it are done.
pub record StopsOn (old new : StoreState) (log : ℕ) (steps : List Step) (end : Option Standing) (why : LogFault)
    : Type 0 where
  pub front : DoesFront old new log steps
  pub store : why ≡ fault.Store → Rose old.failures new.failures
  pub nowhere : why ≡ fault.LabelsSpent → end ≡ None
  pub spent : why ≡ fault.LabelsSpent → Does old new log steps

-- the steps that finish the current file under the label from a reading, with the bytes that wait
abbrev pub steps_to_finish : Tail → Tai64n → List Step
steps_to_finish tail reading = append_steps (waiting_in tail) ++ finish_at (keep_of tail) (marks_at tail) reading

-- The current file was not finished, with the bytes that waited.
abbrev pub FinishesUpTo : (old new : StoreState) → ℕ → Tail → Tai64n → LogFault → Type 0
FinishesUpTo old new log tail reading why = StopsOn old new log (steps_to_finish tail reading)
    (finished_at (keep_of tail) (marks_at tail) reading) why

-- The current file was not finished on request.
abbrev pub RotatesUpTo : (old new : StoreState) → ℕ → Tail → Tai64n → LogFault → Type 0
RotatesUpTo old new log tail reading why = StopsOn old new log (rotate_steps (keep_of tail) (standing tail) reading)
    (rotated (keep_of tail) (standing tail) reading) why

-- Not all bytes of a line were put, after the bytes that waited.
abbrev pub PutsUpTo : (old new : StoreState) → ℕ → Tail → Tai64n → List ℕ → LogFault → Type 0
PutsUpTo old new log tail reading bytes why =
    StopsOn old new log (append_steps (waiting_in tail) ++ steps_at tail reading bytes)
    (after_at tail reading bytes) why
