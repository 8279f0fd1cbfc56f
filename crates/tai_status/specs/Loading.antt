-- The result of reading a status record of either length: what it says, or the first fault.
use Rattle.std.specs.Prelude.{ℕ, nat_lt, Bool, ◌==◌, if◌then◌else◌, List, length, slice_index, take, Option, Some}
use Rattle.std.specs.Prelude.{None, Result, Ok, Err}
use Rattle.tai_status.specs.Record.{Status, IsStatus, IsRecord}
use Rattle.tai_status.specs.Decoding.{status_from}
use Rattle.tai_status.specs.Phase.{phase_from}
use Rattle.tai_status.specs.Full.{FullStatus, IsFull, IsFullRecord, full_of_parts}
use Rattle.tai_status.specs.declared.phase.Phase.{Phase}
use Rattle.tai_status.specs.declared.loading.Loaded.{Loaded}
use Rattle.tai_status.specs.declared.loading.Loaded.TheVariants.{Old, New}
use Rattle.tai_status.specs.declared.record.RecordFault.{RecordFault}
use Rattle.tai_status.specs.declared.record.RecordFault.TheVariants.{ExitingFlag, PhaseNumber, NoSuchState}

-- These bytes are a record of this: 18 bytes, which have no phase, or 20 bytes.
abbrev pub IsLoaded : List ℕ → Loaded → Type 0
IsLoaded bytes (Old status) = IsStatus status × IsRecord bytes status
IsLoaded bytes (New full) = IsFull full × IsFullRecord bytes full

-- what a record of either length says of the process and of the wanted state
abbrev pub status_in : Loaded → Status
status_in (Old status) = status
status_in (New full) = full.status

abbrev pub if_stands : Option FullStatus → Result Loaded RecordFault
if_stands (Some full) = Ok (New full)
if_stands None = Err NoSuchState

abbrev pub with_phase : Status → Bool → Option Phase → Result Loaded RecordFault
with_phase status exiting (Some phase) = if_stands (full_of_parts status phase exiting)
with_phase status exiting None = Err PhaseNumber

-- what the record of a status and two more bytes say
abbrev pub full_from : Result Status RecordFault → ℕ → ℕ → Result Loaded RecordFault
full_from (Err fault) exiting phase = Err fault
full_from (Ok status) exiting phase =
    if nat_lt 1 exiting then Err ExitingFlag else with_phase status (exiting == 1) (phase_from phase)

-- what the record of a status alone says
abbrev pub old_from : Result Status RecordFault → Result Loaded RecordFault
old_from (Err fault) = Err fault
old_from (Ok status) = Ok (Old status)

-- what these bytes say; bytes of any length other than 18 and 20 are no record
unfoldable pub loaded_from : List ℕ → Result Loaded RecordFault
loaded_from bytes =
    if length bytes == 20 then full_from (status_from (take 18 bytes)) (slice_index bytes 18) (slice_index bytes 19)
    else old_from (status_from bytes)
