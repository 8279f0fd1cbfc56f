-- How `multilog` ends.
use Rattle.std.specs.Prelude.{◌≡◌, ◌⊎◌, ℕ, List, [], ◌∷◌, ◌++◌, codes, map, slice_get, unwrap_or, Option, Some, None}
use Rattle.std.specs.Prelude.{MatchOption, Ok}
use Rattle.tai_status.specs.Label.{Tai64n}
use Rattle.tai_status.specs.Counted.{Device, Reports, device_note}
use Rattle.tai_status.specs.declared.cause.Cause.{Cause}
use Rattle.mlog_script.specs.Script.{Act, said, first_fault, file_paths}
use Rattle.mlog_script.specs.declared.fault.ScriptFaultKind.TheVariants as kind
use Rattle.mlog_core.specs.Feed.{Feed}
use Rattle.mlog_core.specs.Parts.{Play, play, RunsParts}
use Rattle.mlog_core.specs.declared.stream.RunFault.{RunFault}
use Rattle.mlog_core.specs.declared.stream.RunFault.TheVariants as run
use Rattle.cmd_multilog.specs.Shelf.{Shelf, state_of}
use Rattle.cmd_multilog.specs.Opening.{Opens, OpensUpTo, folders_of}
use Rattle.cmd_multilog.specs.Sayings.{script_report, script_status, memory_report, unopened_report}
use Rattle.cmd_multilog.specs.Sayings.{call_words, store_note}
use Rattle.cmd_multilog.specs.declared.fault.StoreCall.{StoreCall}
use Rattle.cmd_multilog.specs.declared.fault.StoreCall.TheVariants as call
use Rattle.cmd_multilog.specs.declared.fault.StoreTrouble.{StoreTrouble}
use Rattle.cmd_multilog.specs.declared.fault.OpenFault.{OpenFault}
use Rattle.cmd_multilog.specs.declared.fault.OpenFault.TheVariants as why
use Rattle.cmd_multilog.specs.declared.fault.NoScript.{NoScript}
use Rattle.cmd_multilog.specs.declared.fault.NoScript.TheVariants as no

-- What `multilog` works with: its store, its input, what the clock returned, and the device on which it reports faults.
pub record Stage : Type 0 where
  pub store : Shelf
  pub feed : Feed
  pub readings : Option (List Tai64n)
  pub faults : Device

abbrev pub stage : Shelf → Feed → Option (List Tai64n) → Device → Stage
stage store feed readings faults =
    record { store = store; feed = feed; readings = readings; faults = faults }

-- The script

-- These words stand for this script.
abbrev pub IsSaidBy : List Act → List (List ℕ) → Type 0
IsSaidBy script words = map said words ≡ map (λ action. Ok action) script

-- Why words are not a script: this is the first bad word; or there is none, and there is no memory.
abbrev pub IsRefusal : NoScript → List (List ℕ) → Type 0
IsRefusal (no.Refused fault) words =
    MatchOption (first_fault words) (fault.kind ≡ kind.OutOfMemory) (λ first. fault ≡ first)
IsRefusal no.OutOfMemory words = first_fault words ≡ None

abbrev pub refusal_report : NoScript → List ℕ
refusal_report (no.Refused fault) = script_report fault
refusal_report no.OutOfMemory = memory_report

abbrev pub refusal_status : NoScript → ℕ
refusal_status (no.Refused fault) = script_status fault
refusal_status no.OutOfMemory = 111

-- Nothing is made, opened or read.
pub record DoesNothing (old new : Stage) : Type 0 where
  pub store : new.store ≡ old.store
  pub feed : new.feed ≡ old.feed
  pub readings : new.readings ≡ old.readings

-- The words are not a script: nothing is done, and it is reported why.
pub record Refuses (words : List (List ℕ)) (status : ℕ) (old new : Stage) : Type 0 where
  pub why : NoScript
  pub refusal : IsRefusal why words
  pub nothing : DoesNothing old new
  pub status_is : status ≡ refusal_status why
  pub reported : Reports old.faults new.faults (refusal_report why)

-- The logs

abbrev pub open_report : List Act → OpenFault → List ℕ
open_report script (why.Unopened log cause) =
    unopened_report (unwrap_or (slice_get (folders_of script) log) []) cause
open_report script why.OutOfMemory = memory_report

-- A log can't be opened, or there is no memory: nothing is read, and that is reported.
pub record OpensNotAll (script : List Act) (status : ℕ) (old new : Stage) : Type 0 where
  pub cause : OpenFault
  pub opens : OpensUpTo old.store new.store script cause
  pub unread : new.feed ≡ old.feed
  pub unasked : new.readings ≡ old.readings
  pub status_is : status ≡ 111
  pub reported : Reports old.faults new.faults (open_report script cause)

-- The run

-- what a run works with; and the exit status after it
abbrev pub play_of : Stage → Play
play_of s = play s.feed (state_of s.store) s.readings

abbrev pub run_status : Option RunFault → ℕ
run_status None = 0
run_status (Some fault) = 111

-- what a call of the store is about: the folder of a log, the path of a status file, or standard error
abbrev pub object_of : List Act → StoreCall → List ℕ
object_of script (call.Append log) = unwrap_or (slice_get (folders_of script) log) []
object_of script (call.Finish log) = unwrap_or (slice_get (folders_of script) log) []
object_of script (call.Remove log) = unwrap_or (slice_get (folders_of script) log) []
object_of script (call.Status file) = unwrap_or (slice_get (file_paths script) file) []
object_of script call.Alert = codes "standard error"

-- what is reported about a call of the store that failed
abbrev pub trouble_report : List Act → StoreTrouble → List ℕ
trouble_report script trouble =
    call_words trouble.call ++ (object_of script trouble.call ++ store_note trouble)

-- what is reported about a fault of the store: the last call that failed, and why, if it is known
abbrev pub store_report : List Act → (last : Option StoreTrouble) → List ℕ
store_report script (Some trouble) = trouble_report script trouble
store_report script None = codes "multilog: Store" ++ 10 ∷ []

-- what is reported about a fault of the run; for one of the input, this includes the cause of its last fault
abbrev pub fault_report : List Act → (cause : Option Cause) → (last : Option StoreTrouble) → RunFault → List ℕ
fault_report script cause last run.Read = codes "multilog: " ++ (codes "Read" ++ device_note cause)
fault_report script cause last run.Store = store_report script last
fault_report script cause last run.OutOfMemory = memory_report
fault_report script cause last run.LabelsSpent = codes "multilog: LabelsSpent" ++ 10 ∷ []

abbrev pub ReportsRun : List Act → (cause : Option Cause) → (last : Option StoreTrouble) → Option RunFault
    → (old new : Device) → Type 0
ReportsRun script cause last None old new = new ≡ old
ReportsRun script cause last (Some fault) old new = Reports old new (fault_report script cause last fault)

-- The script was run over opened logs, for each part of the input. No folder was asked for, and the fault is reported.
pub record RunsOpened (script : List Act) (status : ℕ) (old new : Stage) : Type 0 where
  pub ran : Option RunFault
  pub asked : new.store.asked ≡ old.store.asked
  pub runs : RunsParts ran script (play_of old) (play_of new)
  pub status_is : status ≡ run_status ran
  pub reported : ReportsRun script new.feed.device.cause new.store.last ran old.faults new.faults

-- The logs were opened without a call that failed, and then the script was run.
pub record RunsScript (script : List Act) (status : ℕ) (old new : Stage) : Type 0 where
  pub opened : Shelf
  pub well : opened.gave ≡ old.store.gave
  pub opens : Opens old.store opened (folders_of script) (file_paths script) (folders_of script)
  pub runs : RunsOpened script status (stage opened old.feed old.readings old.faults) new

abbrev pub ScriptEnds : List Act → ℕ → Stage → Stage → Type 0
ScriptEnds script status old new = OpensNotAll script status old new ⊎ RunsScript script status old new

-- How `multilog` ends, by its words
abbrev pub MultilogEnds : List (List ℕ) → ℕ → Stage → Stage → Type 0
MultilogEnds words status old new =
    Refuses words status old new ⊎ ((script : List Act) × IsSaidBy script words × ScriptEnds script status old new)

-- The same, over devices, each before and after: the store, the input, the clock, and the device for faults.
abbrev pub EndsBy : {I C : Type 0} → (I → Feed) → (C → Option (List Tai64n)) → List (List ℕ) → ℕ
    → (store store_now : Shelf) → (input input_now : I) → (clock clock_now : C) → (faults faults_now : Device)
    → Type 0
EndsBy feed readings words status store store_now input input_now clock clock_now faults faults_now =
    MultilogEnds words status (stage store (feed input) (readings clock) faults)
    (stage store_now (feed input_now) (readings clock_now) faults_now)
