-- What a run has done, in the words of its private functions. No public contract names these definitions.
use Rattle.std.specs.Prelude.{◌≡◌, ℕ, List, [], length, Option, None, Result, IfOk, IsErrOf}
use Rattle.tai_status.specs.Label.{Tai64n}
use Rattle.tai_status.specs.Lines.{texts_of}
use Rattle.tai_status.specs.Extended.{Extended}
use Rattle.tai_status.specs.Counted.{Device, Gives}
use Rattle.mlog_script.specs.Script.{Act}
use Rattle.mlog_files.specs.Store.{StoreState}
use Rattle.mlog_files.specs.declared.tail.LogFault.{LogFault}
use Rattle.mlog_files.specs.declared.tail.LogFault.TheVariants as log_fault
use Rattle.mlog_line.specs.LineRouter.{Place, IsWritten}
use Rattle.mlog_line.specs.Given.{of_text}
use Rattle.mlog_line.specs.Outputs.{Takes, Stops}
use Rattle.mlog_core.specs.Feed.{Feed}
use Rattle.mlog_core.specs.Scene.{Scene, scene, outputs_of, Went}
use Rattle.mlog_core.specs.declared.stream.RunFault.{RunFault}
use Rattle.mlog_core.specs.declared.stream.RunFault.TheVariants as fault

-- All that was read was handed on, from the beginning.
pub record Came (script : List Act) (old new : Scene) (reader reads : Device) (count : ℕ) : Type 0 where
  pub bytes : List ℕ
  pub read : Gives reader reads bytes
  pub went : Went script old new [] bytes count

-- All that was read was handed out.
pub record Done (script : List Act) (old new : Scene) (reader reads : Device) (count : ℕ) : Type 0 where
  pub bytes : List ℕ
  pub labels : List Tai64n
  pub read : Gives reader reads bytes
  pub gave : Extended old.readings new.readings labels
  pub each : length labels ≡ length (texts_of bytes)
  pub count_is : count ≡ length labels
  pub takes : Takes (outputs_of old) (outputs_of new) (of_text script labels bytes)

-- Not all that was read was handed out.
pub record Halted (script : List Act) (old new : Scene) (reader reads : Device) (why : LogFault) : Type 0 where
  pub bytes : List ℕ
  pub labels : List Tai64n
  pub read : Gives reader reads bytes
  pub gave : Extended old.readings new.readings labels
  pub stops : Stops (outputs_of old) (outputs_of new) (of_text script labels bytes) why

-- The outcomes of a call that reads all lines and hands them out. Either all of it is done; or the reader failed, and
-- what came is written; or the call stopped, with its reason.
pub record Runs (result : Result ℕ RunFault) (script : List Act) (place now : Place) (was is : StoreState)
    (read reads : Option (List Tai64n)) (reader reader_now : Device) : Type 0 where
  pub done : IfOk result (λ lines.
      Done script (scene None place was read) (scene None now is reads) reader reader_now lines)
  pub came : IsErrOf result fault.Read → (inside : Option Tai64n) × (lines : ℕ) × IsWritten now.tails
      × Came script (scene None place was read) (scene inside now is reads) reader reader_now lines
  pub store : IsErrOf result fault.Store
      → Halted script (scene None place was read) (scene None now is reads) reader reader_now log_fault.Store
  pub spent : IsErrOf result fault.LabelsSpent
      → Halted script (scene None place was read) (scene None now is reads) reader reader_now log_fault.LabelsSpent

-- The same, for the part of an input that is being read, and for a store and a clock that contracts see in this way.
abbrev pub RunsOf : {S C I : Type 0} (result : Result ℕ RunFault) (script : List Act) (place now : Place)
    (state : S → StoreState) (store stored : S) (readings : C → Option (List Tai64n)) (clock read : C)
    (feed : I → Feed) (input inputs : I) → Type 0
RunsOf result script place now state store stored readings clock read feed input inputs =
    Runs result script place now (state store) (state stored) (readings clock) (readings read)
    (feed input).device (feed inputs).device
