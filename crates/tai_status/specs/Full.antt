-- The full state of a service, and its full record: 20 bytes, in this project's own layout.
use Rattle.std.specs.Prelude.{ℕ, ◌≡◌, ◌≢◌, ◌<◌, nat_lt, ◌==◌, ◌&&◌, not, Bool, true, false, if◌then◌else◌, List, []}
use Rattle.std.specs.Prelude.{◌∷◌, ◌++◌, length, take, slice_index, Option, Some, None}
use Rattle.tai_status.specs.Record.{Status, IsStatus, IsRecord, flag_byte, status_record}
use Rattle.tai_status.specs.Phase.{phase_byte}
use Rattle.tai_status.specs.declared.phase.Phase.{Phase}
use Rattle.tai_status.specs.declared.phase.Phase.TheVariants as phase
use Rattle.tai_status.specs.declared.record.Want.{Want}
use Rattle.tai_status.specs.declared.record.Want.TheVariants as want

-- What a full record says: the status, the phase of supervise, and whether supervise exits after the process.
pub record FullStatus : Type 0 where
  pub status : Status
  pub phase : Phase
  pub exiting : Bool

-- The condition on a service in each phase. That a paused service has a process isn't repeated here: it is true of each
-- status.
abbrev pub StandsIn : Phase → Status → Bool → Type 0
StandsIn phase.Starting s exiting = (s.pid ≡ 0) × (s.want ≢ want.Down) × (exiting ≡ false)
StandsIn phase.Settling s exiting =
    (0 < s.pid) × (s.paused ≡ false) × (s.want ≢ want.Down) × (exiting ≡ false)
StandsIn phase.Resting s exiting = (s.pid ≡ 0) × (s.want ≢ want.Down) × (exiting ≡ false)
StandsIn phase.Up s exiting = 0 < s.pid
StandsIn phase.Down s exiting = (s.pid ≡ 0) × (s.want ≢ want.Up) × (exiting ≡ false)
StandsIn phase.Gone s exiting = (s.pid ≡ 0) × (exiting ≡ true)

-- The same condition as a test, for reading: `stands_in-decides` in proofs/Standing proves that the two agree.

abbrev pub is_want : Want → Want → Bool
is_want want.Up want.Up = true
is_want want.Down want.Down = true
is_want want.Once want.Once = true
is_want other wanted = false

abbrev pub stands_in : Phase → Status → Bool → Bool
stands_in phase.Starting s exiting = (s.pid == 0) && not (is_want s.want want.Down) && not exiting
stands_in phase.Settling s exiting = nat_lt 0 s.pid && not s.paused && not (is_want s.want want.Down) && not exiting
stands_in phase.Resting s exiting = (s.pid == 0) && not (is_want s.want want.Down) && not exiting
stands_in phase.Up s exiting = nat_lt 0 s.pid
stands_in phase.Down s exiting = (s.pid == 0) && not (is_want s.want want.Up) && not exiting
stands_in phase.Gone s exiting = (s.pid == 0) && exiting

-- the full status with these parts
abbrev pub full_with : Status → Phase → Bool → FullStatus
full_with status phase exiting = record { status = status; phase = phase; exiting = exiting }

-- the full status with these parts, if a service can be in that state
abbrev pub full_of_parts : Status → Phase → Bool → Option FullStatus
full_of_parts status phase exiting =
    if stands_in phase status exiting then Some (full_with status phase exiting) else None

-- The conditions on each full status.
pub record IsFull (full : FullStatus) : Type 0 where
  pub status : IsStatus full.status
  pub stands : StandsIn full.phase full.status full.exiting

-- These bytes are the full record of this full status. Each clause is a row of the record's table.
pub record IsFullRecord (bytes : List ℕ) (full : FullStatus) : Type 0 where
  pub size : length bytes ≡ 20
  -- bytes 0 to 17: the record of its status
  pub status : IsRecord (take 18 bytes) full.status
  -- byte 18: 1 if supervise exits after the process, 0 if not
  pub exiting : slice_index bytes 18 ≡ flag_byte full.exiting
  -- byte 19: the phase
  pub phase : slice_index bytes 19 ≡ phase_byte full.phase

-- the one full record of a full status
abbrev pub full_record : FullStatus → List ℕ
full_record full = status_record full.status ++ (flag_byte full.exiting ∷ []) ++ (phase_byte full.phase ∷ [])
