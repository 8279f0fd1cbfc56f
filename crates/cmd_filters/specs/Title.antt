-- What `readproctitle` prints: the title of its input, by the readproctitle page of daemontools
-- (cr.yp.to/daemontools/readproctitle.html).
use Rattle.std.specs.Prelude.{◌≡◌, ℕ, ◌<◌, ◌-◌, ◌⊎◌, List, [], ◌∷◌, ◌++◌, codes, length, slice_get, MatchOption, Some}
use Rattle.tai_status.specs.Counted.{Device, Fails, Gives, Wrote, WroteFront, IsRead, Reports, device_report}
use Rattle.env_title.specs.Title.{TitleParts, new_title, pushed, title_text}
use Rattle.cmd_base.specs.Console.{Console, EndsWell}
use Rattle.cmd_base.specs.Usage.{RefusesWords}
use Rattle.cmd_base.specs.declared.command.Command.TheVariants as command
use Rattle.cmd_filters.specs.declared.proctitle.ProctitleFault.{ProctitleFault}
use Rattle.cmd_filters.specs.declared.proctitle.ProctitleFault.TheVariants as fault

-- the title of this length after an input, and a newline
abbrev pub title_line : ℕ → List ℕ → List ℕ
title_line len input = title_text (pushed (new_title len) input) ++ 10 ∷ []

-- Bytes were read, and the title shows them.
pub record ShowsRead (len : ℕ) (reader reads : Device) (title : TitleParts) : Type 0 where
  pub bytes : List ℕ
  pub read : Gives reader reads bytes
  pub is : title ≡ pushed (new_title len) bytes

-- The title of the whole input was written, and a newline.
abbrev pub WritesTitle : ℕ → (reader : Device) (old new : Device) → Type 0
WritesTitle len reader old new = (input : List ℕ) → reader.bytes ≡ Some input → Wrote old new (title_line len input)

-- A prefix of the title and the newline was written.
abbrev pub WritesTitleFront : ℕ → (reader : Device) (old new : Device) → Type 0
WritesTitleFront len reader old new =
    (input : List ℕ) → reader.bytes ≡ Some input → WroteFront old new (title_line len input)

-- The report of a fault. For a device that failed, it includes the cause of the last fault.
abbrev pub proctitle_report : ProctitleFault → (reader writer : Device) → List ℕ
proctitle_report fault.TooShort reader writer = codes "readproctitle: TooShort" ++ 10 ∷ []
proctitle_report fault.OutOfMemory reader writer = codes "readproctitle: OutOfMemory" ++ 10 ∷ []
proctitle_report fault.Read reader writer = device_report (codes "readproctitle: ") (codes "read fault") reader
proctitle_report fault.Write reader writer = device_report (codes "readproctitle: ") (codes "write fault") writer

abbrev pub proctitle_status : ProctitleFault → ℕ
proctitle_status fault.TooShort = 100
proctitle_status fault.OutOfMemory = 111
proctitle_status fault.Read = 111
proctitle_status fault.Write = 111

-- Why there is no title of this length. It is under 5 bytes, and nothing was read; there was no memory; the reader
-- failed; or the writer failed, after a prefix of the title of the whole input. In all other cases nothing is written.
abbrev pub NoTitle : ℕ → ProctitleFault → (reader reads : Device) (writer writes : Device) → Type 0
NoTitle len fault.TooShort reader reads writer writes = (len < 5) × (reads ≡ reader) × (writes ≡ writer)
NoTitle len fault.OutOfMemory reader reads writer writes = writes ≡ writer
NoTitle len fault.Read reader reads writer writes = Fails reader reads × (writes ≡ writer)
NoTitle len fault.Write reader reads writer writes =
    Fails writer writes × IsRead reads × WritesTitleFront len reader writer writes

-- The title of the whole input was written, no device failed, and nothing is reported.
pub record ShowsInput (len : ℕ) (old new : Console) : Type 0 where
  pub end : IsRead new.reader
  pub written : WritesTitle len old.reader old.writer new.writer
  pub well : EndsWell old new

-- There is no title, or not the whole of it. The reason is reported.
pub record ReportsWhy (len status : ℕ) (old new : Console) : Type 0 where
  pub fault : ProctitleFault
  pub cause : NoTitle len fault old.reader new.reader old.writer new.writer
  pub reported : Reports old.faults new.faults (proctitle_report fault new.reader new.writer)
  pub status_is : status ≡ proctitle_status fault

-- The title of this length, by the exit status. A title under 5 bytes is always refused.
pub record ShowsTitle (len status : ℕ) (old new : Console) : Type 0 where
  pub short : len < 5 → status ≡ 100
  pub ends : ((status ≡ 0) × ShowsInput len old new) ⊎ ReportsWhy len status old new

-- `readproctitle` shows a title with the length of its last word.
abbrev pub TitleEnds : (words : List (List ℕ)) (status : ℕ) (old new : Console) → Type 0
TitleEnds words status old new = MatchOption (slice_get words (length words - 1))
    (RefusesWords command.Readproctitle status old new) (λ word. ShowsTitle (length word) status old new)
