-- What was asked of the system for the parts of services, and the results.
use Rattle.std.specs.Prelude.{ℕ, Bool, List, Option, Result}
use Rattle.std.specs.Borrow.{Bor}
use Rattle.std.specs.Option.{option_copied, option_map}
use Rattle.std.specs.Result.{result_err}
use Rattle.std.specs.declared.alloc.Global.{Global}
use Rattle.std.specs.declared.io.PipeReader.{PipeReader}
use Rattle.std.specs.declared.fs.File.{File}
use Rattle.std.specs.declared.sync.Arc.{Arc}
use Rattle.tai_status.specs.declared.cause.Cause.{Cause}
use Rattle.scan_table.specs.Slots.{Row}
use Rattle.svc_system.specs.declared.output.OutputEnds.{OutputEnds}
use Rattle.svc_system.specs.declared.flow.Flow.{Flow}
use Rattle.svc_system.specs.declared.flow.LoggerInput.{LoggerInput}
use Rattle.svc_system.specs.declared.folder.FolderFault.{FolderFault}
use Rattle.svc_world.specs.declared.takeover.Remains.{Remains}
use Rattle.svc_world.specs.declared.takeover.Takeover.{Takeover}
use Rattle.svc_maker.specs.declared.part_system.NotAdmitted.{NotAdmitted}

-- One call, with its result. The calls, in the order of the constructors:
--
-- - This many descriptors are allowed from now on.
-- - What the outputs of the services in these rows of a folder lacked was made, as far as it could be.
-- - A pipe was to be made. These are its two ends, or this is the fault.
-- - The output of the service in the folder at a path was to be opened. These are its ends, or this is the fault.
-- - The folder at a path was to be opened and locked, and it was, or this is the fault.
-- - This was found to remain of the service in the folder at a path.
-- - A world was to be made over the folder at a path, to take this over. Messages use this name, and these ends of
--   pipes are standard input and output. It was made, or this is the fault.
-- - The part with this number was to be admitted to the door, with the sockets of the folder at a path. It was, or this
--   is the fault.
-- - The part with this number was dismissed from the door, and the sockets of the folder at a path were removed.
-- - A trace was to be kept in the folder at a path, and was or was not.
-- - svscan's own folder at a path was to be opened and locked, and it was, or this is the fault.
-- - A status record was to be written in the folder at a path, and was or was not.
-- - All outputs were to watch their flows.
-- - The output with this flow was to end, at once or when there is nothing to read.
-- - It was asked whether a logger's input has nothing to read.
-- - The bytes between an output and its logger were counted.
-- - A logger's input was read to its end, and had this many bytes.
pub data Call : Type 0 where
  Allowed : (descriptors : ℕ) → Call
  Prepared : (folder : List ℕ) → (rows : List Row) → Call
  MadePipe : (ends : Result (Arc PipeReader Global × LoggerInput) Cause) → Call
  OpenedOutput : (path : List ℕ) → (ends : Result OutputEnds FolderFault) → Call
  Opened : (path : List ℕ) → (fault : Option FolderFault) → Call
  FoundRemains : (path : List ℕ) → (remains : Remains) → Call
  MadeWorld : (path name : List ℕ) → (taken : Takeover) → (input : Option (Arc PipeReader Global))
      → (output : Option (Arc File Global)) → (fault : Option Cause) → Call
  Admitted : (number : ℕ) → (path : List ℕ) → (fault : Option Cause) → Call
  Dismissed : (number : ℕ) → (path : List ℕ) → Call
  KeptTrace : (path : List ℕ) → (text : List ℕ) → (kept : Bool) → Call
  OpenedOwn : (path : List ℕ) → (fault : Option FolderFault) → Call
  Recorded : (path : List ℕ) → (bytes : List ℕ) → (written : Bool) → Call
  WatchedOutputs : Call
  EndedOutput : (flow : Flow) → (at_once : Bool) → Call
  LookedAtInput : (input : PipeReader) → (is_read : Bool) → Call
  CountedBetween : (flow : Flow) → (bytes : ℕ) → Call
  Drained : (input : PipeReader) → (bytes : ℕ) → Call

-- the call for a world, with copies of these ends of pipes
abbrev pub world_call : {A : Type 0} → (path name : List ℕ) (taken : Takeover)
    (input : Option (Bor (Arc PipeReader Global))) (output : Option (Bor (Arc File Global))) (made : Result A Cause) → Call
world_call path name taken input output made =
    MadeWorld path name taken (option_copied input) (option_copied output) (result_err made)

-- why a part was not admitted, if it was not
abbrev pub why_refused : {A : Type 0} → Result A NotAdmitted → Option Cause
why_refused admitted = option_map (λ (refused : NotAdmitted). refused.cause) (result_err admitted)
