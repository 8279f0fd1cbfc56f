-- The result of reading a status record: the status, or the first fault.
use Rattle.std.specs.Prelude.{ℕ, nat_lt, Bool, not, ◌&&◌, ◌==◌, if◌then◌else◌, List, length, slice_index, take, drop}
use Rattle.std.specs.Prelude.{Option, Some, None, Result, Ok, Err}
use Rattle.std.specs.Int.{w32, from_le_bytes}
use Rattle.tai_status.specs.Label.{Tai64n}
use Rattle.tai_status.specs.Record.{Status}
use Rattle.tai_status.specs.Reading.{from_packed}
use Rattle.tai_status.specs.declared.label.LabelFault.{LabelFault}
use Rattle.tai_status.specs.declared.record.Want.{Want}
use Rattle.tai_status.specs.declared.record.Want.TheVariants.{Up, Down, Once}
use Rattle.tai_status.specs.declared.record.RecordFault.{RecordFault}
use Rattle.tai_status.specs.declared.record.RecordFault.TheVariants.{Length, BadLabel, PausedFlag, PausedNoProcess}
use Rattle.tai_status.specs.declared.record.RecordFault.TheVariants.{WantByte}

-- the wanted state that this byte means
abbrev pub want_from : ℕ → Option Want
want_from byte =
    if byte == 0x75 then Some Up else if byte == 0x64 then Some Down else if byte == 0 then Some Once else None

abbrev pub with_want : Tai64n → ℕ → Bool → Option Want → Result Status RecordFault
with_want label pid paused (Some want) = Ok (record { label = label; pid = pid; paused = paused; want = want })
with_want label pid paused None = Err WantByte

-- the status of a record's four fields
abbrev pub from_fields : Result Tai64n LabelFault → ℕ → ℕ → ℕ → Result Status RecordFault
from_fields (Err fault) pid paused want = Err BadLabel
from_fields (Ok label) pid paused want =
    if nat_lt 1 paused then Err PausedFlag
    else if (paused == 1) && (pid == 0) then Err PausedNoProcess
    else with_want label pid (paused == 1) (want_from want)

-- the status of a record
unfoldable pub status_from : List ℕ → Result Status RecordFault
status_from bytes =
    if not (length bytes == 18) then Err Length
    else from_fields (from_packed (take 12 bytes)) (from_le_bytes w32 (take 4 (drop 12 bytes)))
    (slice_index bytes 16) (slice_index bytes 17)
