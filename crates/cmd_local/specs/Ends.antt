-- How `tai64nlocal` ends: by the tai64nlocal page of daemontools (cr.yp.to/daemontools/tai64nlocal.html).
use Rattle.std.specs.Prelude.{◌≡◌, ◌≢◌, ℕ, ℤ, List, [], ◌∷◌, codes}
use Rattle.tai_status.specs.Counted.{Device, Fails, Works, Gives, Wrote, WroteFront, IsRead, Reports}
use Rattle.tai_status.specs.Counted.{device_report}
use Rattle.cmd_base.specs.Console.{Console, EndsWell, console}
use Rattle.cmd_base.specs.Usage.{RefusesWords}
use Rattle.cmd_base.specs.declared.command.Command.TheVariants as command
use Rattle.cmd_local.specs.Lines.{localised}
use Rattle.cmd_local.specs.declared.localising.LocalFault.{LocalFault}
use Rattle.cmd_local.specs.declared.localising.LocalFault.TheVariants as fault

-- What is reported about a fault: which device failed, and the cause of its last fault.
abbrev pub local_report : LocalFault → (reader writer : Device) → List ℕ
local_report fault.Read reader writer = device_report (codes "tai64nlocal: ") (codes "Read") reader
local_report fault.Write reader writer = device_report (codes "tai64nlocal: ") (codes "Write") writer

-- Bytes were read, and each of their lines was written with local time.
pub record Localises (ahead : ℤ → ℤ) (reader read writer written : Device) : Type 0 where
  pub bytes : List ℕ
  pub gave : Gives reader read bytes
  pub text : Wrote writer written (localised ahead bytes)

-- Bytes were read, and a front of their lines with local time was written.
pub record LocalisesFront (ahead : ℤ → ℤ) (reader read writer written : Device) : Type 0 where
  pub bytes : List ℕ
  pub gave : Gives reader read bytes
  pub text : WroteFront writer written (localised ahead bytes)

-- What a fault comes from. The reader failed, and everything that it returned is written with local time. Or the writer
-- failed, after a front of that was written.
abbrev pub LocalCause : (ahead : ℤ → ℤ) → LocalFault → (reader read writer written : Device) → Type 0
LocalCause ahead fault.Read reader read writer written =
    Fails reader read × Works writer written × Localises ahead reader read writer written
LocalCause ahead fault.Write reader read writer written =
    Fails writer written × LocalisesFront ahead reader read writer written

-- The whole input was written with local time, no device failed, and nothing is reported.
pub record LocalisesInput (ahead : ℤ → ℤ) (old new : Console) : Type 0 where
  pub lines : Localises ahead old.reader new.reader old.writer new.writer
  pub end : IsRead new.reader
  pub well : EndsWell old new

-- A device failed, and it is reported which one, and why.
pub record LocalisesNoFurther (ahead : ℤ → ℤ) (old new : Console) : Type 0 where
  pub fault : LocalFault
  pub cause : LocalCause ahead fault old.reader new.reader old.writer new.writer
  pub reported : Reports old.faults new.faults (local_report fault new.reader new.writer)

-- How `tai64nlocal` without words ends, by its status.
pub record LocalByStatus (ahead : ℤ → ℤ) (status : ℕ) (old new : Console) : Type 0 where
  pub done : status ≡ 0 → LocalisesInput ahead old new
  pub trouble : status ≢ 0 → (status ≡ 111) × LocalisesNoFurther ahead old new

-- `tai64nlocal` takes no words.
abbrev pub LocalEnds : (ahead : ℤ → ℤ) (words : List (List ℕ)) (status : ℕ) (old new : Console) → Type 0
LocalEnds ahead [] status old new = LocalByStatus ahead status old new
LocalEnds ahead (word ∷ words) status old new = RefusesWords command.Tai64nlocal status old new

-- The same, for each device before and after.
abbrev pub FilterEnds : (ahead : ℤ → ℤ) (words : List (List ℕ)) (status : ℕ)
    (reader reads writer writes faults reports : Device) → Type 0
FilterEnds ahead words status reader reads writer writes faults reports =
    LocalEnds ahead words status (console reader writer faults) (console reads writes reports)
