-- What svscan's end finds: the processes that still run, and the bytes that were not logged.
use Rattle.std.specs.Prelude.{◌≡◌, ℕ, nat_lt, List, [], ◌∷◌, map}
use Rattle.std.specs.List.{filter}
use mathlib.Core.List.{IsPrefix}
use Rattle.scan_table.specs.declared.part.PartId.{PartId}
use Rattle.scan_table.specs.Slots.{SlotState}
use Rattle.tai_status.specs.Record.{Status}
use Rattle.svc_host.specs.Outputs.{CountsLost}
use Rattle.svc_host.specs.Parts.{AreHeard, HostPart, IsReading, running_ids}
use Rattle.svc_host.specs.Rounds.{HostState}
use Rattle.svscan_rounds.specs.declared.service_set.Remaining.{Remaining}
use Rattle.svscan_rounds.specs.declared.service_set.Unfinished.TheVariants.{Bytes}
use Rattle.svscan_rounds.specs.declared.service_set.Unlogged.{Unlogged}
use Rattle.cmd_svscan.specs.Losses.{name_at, shown_name}

-- what was read of a part: its id and its status
abbrev pub Reading : Type 0
Reading = PartId × Status

abbrev pub part_of : Reading → PartId
part_of reading = reading.0

-- the processes of parts, from what was read of each: name and number
abbrev pub remaining_in : List SlotState → List Reading → List Remaining
remaining_in slots read =
    map (λ (reading : Reading). record { name = shown_name slots reading.0; pid = reading.1.pid })
    (filter (λ (reading : Reading). nat_lt 0 reading.1.pid) read)

-- The status of each part was read, one after the other.
abbrev pub AreRead : List Reading → (old new : List HostPart) → Type 0
AreRead [] old new = new ≡ old
AreRead (reading ∷ rest) old new =
    (middle : List HostPart) × AreHeard old middle × IsReading reading.0 middle reading.1 × AreRead rest middle new

-- Each part that runs was read, in order, and these processes were found.
pub record FindsRemaining (old : HostState) (left : List Remaining) (new : HostState) : Type 0 where
  pub read : List Reading
  pub each : map part_of read ≡ running_ids old.parts
  pub readings : AreRead read old.parts new.parts
  pub left_are : left ≡ remaining_in old.table.slots read

-- the slot of a pair, and how many of its bytes did not reach its logger
abbrev pub Lost : Type 0
Lost = ℕ × ℕ

-- the service with its name, and how many bytes
abbrev pub unlogged_of : List SlotState → Lost → Unlogged
unlogged_of slots one = record { name = name_at slots one.0; what = Bytes one.1 }

-- the bytes that were not logged, for the services that lost any
abbrev pub unlogged_in : List SlotState → List Lost → List Unlogged
unlogged_in slots lost = map (unlogged_of slots) (filter (λ (one : Lost). nat_lt 0 one.1) lost)

-- These pairs were taken, one after the other, and what each lost was counted.
abbrev pub AreTaken : List Lost → (old new : HostState) → Type 0
AreTaken [] old new = new ≡ old
AreTaken (one ∷ rest) old new =
    (middle : HostState) × CountsLost one.0 one.1 old middle × AreTaken rest middle new

-- Pairs were taken, and these bytes were found that were not logged.
pub record FindsUnlogged (old : HostState) (unlogged : List Unlogged) (new : HostState) : Type 0 where
  pub lost : List Lost
  pub taken : AreTaken lost old new
  pub unlogged_are : unlogged ≡ unlogged_in old.table.slots lost

-- The first of these were found, as many as there was memory for.
abbrev pub FindsFirstUnlogged : (old : HostState) (some : List Unlogged) (new : HostState) → Type 0
FindsFirstUnlogged old some new = (all : List Unlogged) × FindsUnlogged old all new × IsPrefix some all
