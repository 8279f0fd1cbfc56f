-- How `tai64n` exits, by the tai64n page of daemontools (cr.yp.to/daemontools/tai64n.html).
use Rattle.std.specs.Prelude.{◌≡◌, ◌≢◌, ℕ, List, [], ◌∷◌, codes, Option}
use Rattle.tai_status.specs.Label.{Tai64n}
use Rattle.tai_status.specs.Counted.{Device, Fails, Works, IsRead, Reports, device_report}
use Rattle.tai_status.specs.Lines.{StampState, stamp_state, Stamps, StampsFront}
use Rattle.tai_status.specs.declared.stamp.StampFault.{StampFault}
use Rattle.tai_status.specs.declared.stamp.StampFault.TheVariants as fault
use Rattle.cmd_base.specs.Console.{Console, EndsWell, console}
use Rattle.cmd_base.specs.Usage.{RefusesWords}
use Rattle.cmd_base.specs.declared.command.Command.TheVariants as command

-- The report of a fault: the device that failed, and the cause of its last fault.
abbrev pub stamp_report : StampFault → (reader writer : Device) → List ℕ
stamp_report fault.Read reader writer = device_report (codes "tai64n: ") (codes "Read") reader
stamp_report fault.Write reader writer = device_report (codes "tai64n: ") (codes "Write") writer

-- the state of stamping of a command, with the readings of the clock so far
abbrev pub stamp_state_of : Console → Option (List Tai64n) → StampState
stamp_state_of at readings = stamp_state at.reader at.writer readings

-- The whole input was stamped, no device failed, and nothing is reported.
pub record StampsInput (past now : Option (List Tai64n)) (old new : Console) : Type 0 where
  pub lines : ℕ
  pub stamps : Stamps (stamp_state_of old past) (stamp_state_of new now) lines
  pub end : IsRead new.reader
  pub well : EndsWell old new

-- The cause of a fault. Either the reader failed, and the lines that it gave are stamped and written; or the writer
-- failed, after a prefix of the stamped lines.
abbrev pub StampCause : StampFault → (past now : Option (List Tai64n)) (old new : Console) → Type 0
StampCause fault.Read past now old new = Fails old.reader new.reader × Works old.writer new.writer
    × ((lines : ℕ) × Stamps (stamp_state_of old past) (stamp_state_of new now) lines)
StampCause fault.Write past now old new = Works old.reader new.reader × Fails old.writer new.writer
    × StampsFront (stamp_state_of old past) (stamp_state_of new now)

-- A device failed. Which one, and why, is reported.
pub record StampsNoFurther (past now : Option (List Tai64n)) (old new : Console) : Type 0 where
  pub fault : StampFault
  pub cause : StampCause fault past now old new
  pub reported : Reports old.faults new.faults (stamp_report fault new.reader new.writer)

-- `tai64n` without words, by its exit status.
pub record StampsByStatus (status : ℕ) (past now : Option (List Tai64n)) (old new : Console) : Type 0 where
  pub done : status ≡ 0 → StampsInput past now old new
  pub trouble : status ≢ 0 → (status ≡ 111) × StampsNoFurther past now old new

-- `tai64n` takes no words.
abbrev pub StampsEnd : (words : List (List ℕ)) (status : ℕ) (past now : Option (List Tai64n))
    (old new : Console) → Type 0
StampsEnd [] status past now old new = StampsByStatus status past now old new
StampsEnd (word ∷ words) status past now old new = RefusesWords command.Tai64n status old new

-- The same, for a clock with these readings, and for each device as it was and as it is.
abbrev pub TaiEnds : {C : Type 0} (words : List (List ℕ)) (status : ℕ) (readings : C → Option (List Tai64n))
    (clock read : C) (reader reads writer writes faults reports : Device) → Type 0
TaiEnds words status readings clock read reader reads writer writes faults reports =
    StampsEnd words status (readings clock) (readings read) (console reader writer faults)
    (console reads writes reports)
