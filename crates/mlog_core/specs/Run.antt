-- What a run of multilog does.
use Rattle.std.specs.Prelude.{◌≡◌, ℕ, ◌+◌, ◌-◌, ◌^◌, ◌<◌, ◌≤◌, min, true, List, [], ◌∷◌, ◌++◌, length, take}
use Rattle.std.specs.Prelude.{fold, slice_get, Option, Some, None, IfSome, Result, IfOk, IsErrOf}
use Rattle.std.specs.Io.KnownBytes.{Appends}
use Rattle.tai_status.specs.Label.{Tai64n}
use Rattle.tai_status.specs.Counted.{Device, AppendsFront, Gives}
use Rattle.tai_status.specs.Lines.{Sent, texts_of}
use Rattle.tai_status.specs.Extended.{Extended}
use Rattle.tai_status.specs.LineReader.{IsPlain}
use Rattle.mlog_script.specs.Script.{Act, Plan, log_plans}
use Rattle.mlog_script.specs.Selection.{log_text, alert_text, file_contents, is_whole}
use Rattle.mlog_files.specs.Files.{Files, Step}
use Rattle.mlog_files.specs.Going.{Standing, steps_on, standing_on}
use Rattle.mlog_files.specs.Store.{StoreState, Visible, Reaches, WasGiven}
use Rattle.mlog_files.specs.Tails.{found}
use Rattle.mlog_line.specs.Given.{Given, nothing, so_far}
use Rattle.mlog_line.specs.Outputs.{GivenFront}
use Rattle.mlog_core.specs.Feed.{Feed}
use Rattle.mlog_core.specs.declared.stream.RunCounts.{RunCounts}
use Rattle.mlog_core.specs.declared.stream.RunFault.{RunFault}
use Rattle.mlog_core.specs.declared.stream.RunFault.TheVariants as fault

-- What a run reads, writes and asks: the reader, the store, and the readings of the clock.
pub record World : Type 0 where
  pub reader : Device
  pub store : StoreState
  pub readings : Option (List Tai64n)

abbrev pub world : Device → StoreState → Option (List Tai64n) → World
world reader store readings = record { reader = reader; store = store; readings = readings }

-- the state of each log when it was opened: that of its files, if they are visible
abbrev pub AreFound : Visible → (ℕ → Standing) → Type 0
AreFound visible stood = (log : ℕ) → IfSome (visible.files log) (λ files. stood log ≡ found files)

-- the steps of the log of a plan, for a text
abbrev pub planned_steps : Option Plan → Standing → List Sent → List Step
planned_steps None stood text = []
planned_steps (Some plan) stood text = steps_on plan.size plan.keep (Some stood) text

-- the steps of a log for the lines of an input, which have these labels
abbrev pub log_steps : List Act → (ℕ → Standing) → List Tai64n → List ℕ → ℕ → List Step
log_steps script stood labels bytes log =
    planned_steps (slice_get (log_plans script) log) (stood log) (log_text script log labels bytes)

-- whether such a log stops since there is no label for an old file
abbrev pub IsPlanSpent : Option Plan → Standing → List Sent → Type 0
IsPlanSpent None stood text = ⊥
IsPlanSpent (Some plan) stood text = standing_on plan.size plan.keep (Some stood) text ≡ None

-- the state of such a log at the end
abbrev pub IsEnd : Option Plan → Standing → List Sent → Option Standing → Type 0
IsEnd None stood text end = end ≡ None
IsEnd (Some plan) stood text end = standing_on plan.size plan.keep (Some stood) text ≡ end

-- How many files all logs have finished, and removed, by the state of each at the end. The counts stop at 2^64 - 1.
abbrev pub all_finished : List Standing → ℕ
all_finished ends = fold (λ total end. min (2 ^ 64 - 1) (total + end.marks.finished)) 0 ends

abbrev pub all_removed : List Standing → ℕ
all_removed ends = fold (λ total end. min (2 ^ 64 - 1) (total + end.marks.removed)) 0 ends

-- All the input was handed out: each log's files went through the steps of its text, the alerts were alerted, and each
-- status file was given its contents. The clock was read once for each line.
pub record RunsAll (script : List Act) (old new : World) (counts : RunCounts) : Type 0 where
  pub bytes : List ℕ
  pub labels : List Tai64n
  pub stood : ℕ → Standing
  pub ends : List Standing
  pub read : Gives old.reader new.reader bytes
  pub gave : Extended old.readings new.readings labels
  pub each : length labels ≡ length (texts_of bytes)
  pub are_found : AreFound old.store.visible stood
  pub logs : (log : ℕ)
      → Reaches (old.store.visible.files log) (new.store.visible.files log) (log_steps script stood labels bytes log)
  pub alerts : Appends old.store.visible.alerts new.store.visible.alerts (alert_text script labels bytes)
  pub files : (file : ℕ) → WasGiven (old.store.visible.statuses file) (new.store.visible.statuses file)
      (file_contents script file labels bytes)
  pub lines : counts.lines ≡ length (texts_of bytes)
  pub are_ends : (log : ℕ)
      → IsEnd (slice_get (log_plans script) log) (stood log) (log_text script log labels bytes) (slice_get ends log)
  pub finished : counts.finished ≡ all_finished ends
  pub removed : counts.removed ≡ all_removed ends

-- The files of a log went through a prefix of some steps, with at least this many of them.
pub record ReachesFront (old new : Option Files) (least : ℕ) (steps : List Step) : Type 0 where
  pub count : ℕ
  pub enough : least ≤ count
  pub reaches : Reaches old new (take count steps)

-- the label of a line that has begun, if there is one
abbrev pub labels_of : Option Tai64n → List Tai64n
labels_of None = []
labels_of (Some label) = label ∷ []

-- What a line that has begun and not ended has given, if there is one: nothing, until its first 1000 bytes are there
-- and decide.
abbrev pub given_in : List Act → Option Tai64n → List ℕ → Given
given_in script None front = nothing
given_in script (Some label) front = so_far script label front

-- These are the bytes of a line that has begun, if there is one.
abbrev pub IsBegun : Option Tai64n → List ℕ → Type 0
IsBegun None front = front ≡ []
IsBegun (Some label) front = 0 < length front

-- The reader failed. It gave whole lines, and perhaps the beginning of a last line. The lines were handed out. The last
-- line has given what it gives before its end.
pub record RunsLines (script : List Act) (old new : World) : Type 0 where
  pub lines : List ℕ
  pub front : List ℕ
  pub labels : List Tai64n
  pub begun : Option Tai64n
  pub stood : ℕ → Standing
  pub read : Gives old.reader new.reader (lines ++ front)
  pub gave : Extended old.readings new.readings (labels ++ labels_of begun)
  pub whole : is_whole lines ≡ true
  pub plain : IsPlain front
  pub is_begun : IsBegun begun front
  pub each : length labels ≡ length (texts_of lines)
  pub are_found : AreFound old.store.visible stood
  pub logs : (log : ℕ) → Reaches (old.store.visible.files log) (new.store.visible.files log)
      (planned_steps (slice_get (log_plans script) log) (stood log)
      (log_text script log labels lines ++ (given_in script begun front).logs log))
  pub alerts : Appends old.store.visible.alerts new.store.visible.alerts
      (alert_text script labels lines ++ (given_in script begun front).alerts)
  pub files : (file : ℕ) → WasGiven (old.store.visible.statuses file) (new.store.visible.statuses file)
      (file_contents script file labels lines ++ (given_in script begun front).files file)

-- The store failed, or there was no label for an old file. A prefix of the steps of each log is done, a prefix of the
-- alerts was alerted, and each status file was given a prefix of its contents.
pub record RunsUpTo (script : List Act) (old new : World) (why : RunFault) : Type 0 where
  pub bytes : List ℕ
  pub labels : List Tai64n
  pub stood : ℕ → Standing
  pub read : Gives old.reader new.reader bytes
  pub gave : Extended old.readings new.readings labels
  pub are_found : AreFound old.store.visible stood
  pub logs : (log : ℕ)
      → ReachesFront (old.store.visible.files log) (new.store.visible.files log) 0
      (log_steps script stood labels bytes log)
  pub alerts : AppendsFront old.store.visible.alerts new.store.visible.alerts (alert_text script labels bytes)
  pub files : (file : ℕ) → GivenFront (old.store.visible.statuses file) (new.store.visible.statuses file)
      (file_contents script file labels bytes)
  pub spent : why ≡ fault.LabelsSpent → (log : ℕ)
      × IsPlanSpent (slice_get (log_plans script) log) (stood log) (log_text script log labels bytes)

-- How a run ends. At Ok all the input was handed out. If the reader failed, what it gave was handed out. If the store
-- failed, or a log has no label for an old file, a prefix of the steps is done. If memory was lacking, nothing was
-- done.
pub record RunEnds (result : Result RunCounts RunFault) (script : List Act) (old new : World) : Type 0 where
  pub done : IfOk result (λ counts. RunsAll script old new counts)
  pub read : IsErrOf result fault.Read → RunsLines script old new
  pub store : IsErrOf result fault.Store → RunsUpTo script old new fault.Store
  pub spent : IsErrOf result fault.LabelsSpent → RunsUpTo script old new fault.LabelsSpent
  pub memory : IsErrOf result fault.OutOfMemory → new ≡ old

-- The same, for a store and a clock that contracts see in this way.
abbrev pub RunsTo : {S C : Type 0} (result : Result RunCounts RunFault) (script : List Act) (reader reads : Device)
    (state : S → StoreState) (store stored : S) (readings : C → Option (List Tai64n)) (clock read : C) → Type 0
RunsTo result script reader reads state store stored readings clock read =
    RunEnds result script (world reader (state store) (readings clock)) (world reads (state stored) (readings read))

-- The same, for the part of an input that is being read.
abbrev pub PartRuns : {I S C : Type 0} (result : Result RunCounts RunFault) (script : List Act) (feed : I → Feed)
    (input inputs : I) (state : S → StoreState) (store stored : S) (readings : C → Option (List Tai64n))
    (clock read : C) → Type 0
PartRuns result script feed input inputs state store stored readings clock read =
    RunsTo result script (feed input).device (feed inputs).device state store stored readings clock read
