-- The phases of supervise: the name of each, and its number in a full record.
use Rattle.std.specs.Prelude.{ℕ, ◌==◌, if◌then◌else◌, List, codes, Option, Some, None}
use Rattle.tai_status.specs.declared.phase.Phase.{Phase}
use Rattle.tai_status.specs.declared.phase.Phase.TheVariants as phase

abbrev pub phase_name : Phase → List ℕ
phase_name phase.Starting = codes "starting"
phase_name phase.Settling = codes "settling"
phase_name phase.Resting = codes "resting"
phase_name phase.Up = codes "up"
phase_name phase.Down = codes "down"
phase_name phase.Gone = codes "gone"

abbrev pub phase_byte : Phase → ℕ
phase_byte phase.Starting = 0
phase_byte phase.Settling = 1
phase_byte phase.Resting = 2
phase_byte phase.Up = 3
phase_byte phase.Down = 4
phase_byte phase.Gone = 5

-- the phase with this number
abbrev pub phase_from : ℕ → Option Phase
phase_from byte =
    if byte == 0 then Some phase.Starting
    else if byte == 1 then Some phase.Settling
    else if byte == 2 then Some phase.Resting
    else if byte == 3 then Some phase.Up
    else if byte == 4 then Some phase.Down
    else if byte == 5 then Some phase.Gone
    else None
