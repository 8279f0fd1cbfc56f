-- A device with counts of its reads and its faults, and what calls do to it.
use Rattle.std.specs.Prelude.{◌≡◌, ℕ, ◌-◌, ◌^◌, ◌<◌, ◌≤◌, ◌⊎◌, List, take, Option, Some, None, [], ◌∷◌, ◌++◌}
use Rattle.std.specs.Io.KnownBytes.{Appends, Consumes, Keeps, IsAtEnd}
use Rattle.tai_status.specs.declared.cause.Cause.{Cause}
use Rattle.tai_status.specs.Causes.{cause_note}

-- A device as contracts see it. It has the bytes that a reader has left or that a writer holds, if they are known, and
-- the number of reads. It also has the number of calls that failed, and the cause of the last failure.
pub record Device : Type 0 where
  pub bytes : Option (List ℕ)
  pub reads : ℕ
  pub faults : ℕ
  pub cause : Option Cause

-- The count rose, or it is at its maximum.
abbrev pub Rose : ℕ → ℕ → Type 0
Rose old new = (old < new) ⊎ (new ≡ 2 ^ 64 - 1)

-- The bytes that a writer is known to hold grew by a prefix of this piece.
pub record AppendsFront (old new : Option (List ℕ)) (piece : List ℕ) : Type 0 where
  pub count : ℕ
  pub front : Appends old new (take count piece)

-- The device failed: its count of faults rose, or it is at its maximum.
abbrev pub Fails : (old new : Device) → Type 0
Fails old new = Rose old.faults new.faults

-- No call of the device failed.
abbrev pub Works : (old new : Device) → Type 0
Works old new = new.faults ≡ old.faults

-- The device was read, at most 2^48 times in all.
abbrev pub CountsRead : (old new : Device) → Type 0
CountsRead old new = (old.reads < new.reads) × (new.reads ≤ 2 ^ 48)

-- This text was written to the device.
abbrev pub Wrote : (old new : Device) → List ℕ → Type 0
Wrote old new text = Appends old.bytes new.bytes text

-- A prefix of this text was written to the device.
abbrev pub WroteFront : (old new : Device) → List ℕ → Type 0
WroteFront old new text = AppendsFront old.bytes new.bytes text

-- A text was reported: either all of it was written, or the device failed after a prefix of it.
abbrev pub Reports : (old new : Device) → List ℕ → Type 0
Reports old new text = Wrote old new text ⊎ (WroteFront old new text × Fails old new)

-- These bytes were read from the device.
abbrev pub Gives : (old new : Device) → List ℕ → Type 0
Gives old new bytes = Consumes old.bytes new.bytes bytes

-- No byte of the device was read.
abbrev pub GivesNothing : (old new : Device) → Type 0
GivesNothing old new = Keeps old.bytes new.bytes

-- All of the device was read.
abbrev pub IsRead : Device → Type 0
IsRead device = IsAtEnd device.bytes

-- The end of a line that reports a failed device: the cause of its last fault.
abbrev pub device_note : Option Cause → List ℕ
device_note None = 10 ∷ []
device_note (Some cause) = cause_note cause

-- The line that a command writes about a device that failed.
abbrev pub device_report : (command what : List ℕ) → Device → List ℕ
device_report command what device = command ++ (what ++ device_note device.cause)
