-- Paths and texts that are passed to the system.
use Rattle.std.specs.Prelude.{ℕ, if◌then◌else◌, ◌==◌, List, [], ◌∷◌, ◌++◌, codes, decimal, Option, Some, None, Result}
use Rattle.std.specs.Prelude.{Ok, Err}
use Rattle.tai_status.specs.Loading.{loaded_from, status_in}
use Rattle.tai_status.specs.declared.loading.Loaded.{Loaded}
use Rattle.tai_status.specs.declared.record.RecordFault.{RecordFault}
use Rattle.std.specs.declared.io.ErrorKind.{ErrorKind}
use Rattle.std.specs.declared.io.ErrorKind.TheVariants as io
use Rattle.tai_status.specs.declared.cause.Cause.{Cause}
use Rattle.tai_status.specs.Causes.{cause_words}
use Rattle.svc_world.specs.declared.paper.Paper.{Paper}
use Rattle.svc_world.specs.declared.paper.Paper.TheVariants as paper
use Rattle.svc_world.specs.declared.paper.Remark.{Remark}
use Rattle.svc_world.specs.declared.paper.Remark.TheVariants.{StillRuns, Unwritten, AllWritten}

-- the path of a name in the kernel's folder of a process
abbrev pub path_of_process : (pid : ℕ) (name : List ℕ) → List ℕ
path_of_process pid name = codes "/proc/" ++ decimal pid ++ codes "/" ++ name

-- the line that asks the signal shell for a signal
abbrev pub signal_line : (name : List ℕ) (pid : ℕ) → List ℕ
signal_line name pid = name ++ codes " " ++ decimal pid ++ 10 ∷ []

-- the process with this number; 0 means none
abbrev pub process_of : (pid : ℕ) → Option ℕ
process_of pid = if pid == 0 then None else Some pid

-- the process of a status record that was read
abbrev pub process_loaded : Result Loaded RecordFault → Option ℕ
process_loaded (Ok loaded) = process_of (status_in loaded).pid
process_loaded (Err fault) = None

-- the process that a status record of either length names, if these bytes are one
abbrev pub process_in : (bytes : List ℕ) → Option ℕ
process_in bytes = process_loaded (loaded_from bytes)

-- the name of a paper's file in `supervise/`
abbrev pub paper_name : Paper → List ℕ
paper_name paper.Place = codes "place"
paper_name paper.Process = codes "process"
paper_name paper.Status = codes "status"
paper_name paper.Exit = codes "exit"
paper_name paper.Counts = codes "counts"
paper_name paper.Ready = codes "ready"
paper_name paper.Backoff = codes "backoff"

-- what is said while the process with this number may still run; 0 means that processes can't be looked at
abbrev pub still_runs : (pid : ℕ) → List ℕ
still_runs pid =
    if pid == 0 then codes "unable to look for its process"
    else codes "process " ++ decimal pid ++ codes " still runs"

-- what is said about a service; the cause is that of a paper that can't be written
abbrev pub remark_text : Remark → Cause → List ℕ
remark_text (StillRuns pid) cause = still_runs pid
remark_text (Unwritten which) cause = codes "unable to write " ++ paper_name which ++ codes ": " ++ cause_words cause
remark_text AllWritten cause = codes "all records are written again"

-- what is said about a `run` that can't be executed, by the kind of the fault; None: a shell may still run it
abbrev pub unable_to_run : ErrorKind → Option (List ℕ)
unable_to_run io.NotFound = Some (codes "unable to run ./run: No such file or directory")
unable_to_run io.PermissionDenied = Some (codes "unable to run ./run: Permission denied")
unable_to_run _ = None
