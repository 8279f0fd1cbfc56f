-- The status record of a service: 18 bytes, in this project's own layout.
use Rattle.std.specs.Prelude.{ℕ, ◌^◌, ◌<◌, ◌≡◌, Bool, true, if◌then◌else◌, List, [], ◌∷◌, ◌++◌, length, take, drop}
use Rattle.std.specs.Prelude.{slice_index}
use Rattle.std.specs.Int.{w32, to_le_bytes}
use Rattle.tai_status.specs.Label.{Tai64n, IsLabel, packed}
use Rattle.tai_status.specs.declared.record.Want.{Want}
use Rattle.tai_status.specs.declared.record.Want.TheVariants.{Up, Down, Once}

-- What a record says: when the process last changed, the process number or 0 for none, whether the process is paused,
-- and what is wanted.
pub record Status : Type 0 where
  pub label : Tai64n
  pub pid : ℕ
  pub paused : Bool
  pub want : Want

-- Only a process can be paused.
pub record IsStatus (status : Status) : Type 0 where
  pub label : IsLabel status.label
  pub pid : status.pid < 2 ^ 32
  pub paused : status.paused ≡ true → 0 < status.pid

-- the byte of a wanted state: `u`, `d`, and 0 for once
abbrev pub want_byte : Want → ℕ
want_byte Up = 0x75
want_byte Down = 0x64
want_byte Once = 0

abbrev pub flag_byte : Bool → ℕ
flag_byte flag = if flag then 1 else 0

-- These bytes are the record of this status. Each clause is a row of the record's table.
pub record IsRecord (bytes : List ℕ) (status : Status) : Type 0 where
  pub size : length bytes ≡ 18
  -- bytes 0 to 11: the packed label of the last change of process
  pub label : take 12 bytes ≡ packed status.label
  -- bytes 12 to 15: the process number, the least significant byte first
  pub pid : take 4 (drop 12 bytes) ≡ to_le_bytes w32 status.pid
  -- byte 16: 1 if the process is paused, 0 if not
  pub paused : slice_index bytes 16 ≡ flag_byte status.paused
  -- byte 17: what is wanted
  pub want : slice_index bytes 17 ≡ want_byte status.want

-- the one record of a status
abbrev pub status_record : Status → List ℕ
status_record status =
    packed status.label
    ++ to_le_bytes w32 status.pid
    ++ (flag_byte status.paused ∷ [])
    ++ (want_byte status.want ∷ [])
