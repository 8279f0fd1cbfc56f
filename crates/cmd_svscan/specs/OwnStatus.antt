-- The status of svscan itself, as its status record says it.
use Rattle.std.specs.Prelude.{ℕ, ◌==◌, if◌then◌else◌, true, false}
use Rattle.tai_status.specs.Label.{Tai64n}
use Rattle.tai_status.specs.Record.{Status}
use Rattle.tai_status.specs.Full.{FullStatus, full_with}
use Rattle.tai_status.specs.declared.phase.Phase.TheVariants as phase
use Rattle.tai_status.specs.declared.record.Want.TheVariants.{Up}

-- up since this moment, with this process; or gone, if there is none
abbrev pub own_status : (label : Tai64n) (pid : ℕ) → FullStatus
own_status label pid =
    let status : Status = record { label = label; pid = pid; paused = false; want = Up } in
    if pid == 0 then full_with status phase.Gone true else full_with status phase.Up false
