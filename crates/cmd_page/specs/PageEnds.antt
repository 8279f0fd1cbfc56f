-- How `svstat --html` ends: the clock is read, all services are looked at, and then the whole page is written.
use Rattle.std.specs.Prelude.{◌≡◌, ◌⊎◌, ℕ, List, [], ◌∷◌, ◌++◌, codes, flat_map, map, Option, Some, None}
use Rattle.std.specs.List.{AllByRecursion}
use Rattle.tai_status.specs.Counted.{Device, Fails, Reports, Works, Wrote, WroteFront}
use Rattle.tai_status.specs.Extended.{Extended}
use Rattle.tai_status.specs.Label.{Tai64n}
use Rattle.tai_status.specs.Record.{Status}
use Rattle.cmd_base.specs.Known.{IsKnown}
use Rattle.svc_client.specs.Calls.{Call}
use Rattle.cmd_svc.specs.Missing.{TellsEach, telling}
use Rattle.svc_client.specs.Sight.{Sight, sight}
use Rattle.cmd_svc.specs.Svstat.{Scene, scene, svstat_report}
use Rattle.cmd_svc.specs.declared.svstat.SvstatFault.TheVariants as why
use Rattle.cmd_why.specs.Texts.{Knowledge}
use Rattle.cmd_why.specs.Why.{IsTraceOf}
use Rattle.cmd_report.specs.Finds.{FindsFront, FindsWords}
use Rattle.cmd_report.specs.declared.found.FoundService.{FoundService}
use Rattle.cmd_page.specs.Page.{Row, page_text, row_text, status_of}

-- the local time of the last change of process, if a status was read
abbrev pub IsSince : (times : Tai64n → Option (List ℕ)) → Option Status → (since : List ℕ) → Type 0
IsSince times None since = since ≡ []
IsSince times (Some status) since = IsKnown (times status.label) since

-- A row has the trace of its service, and the local time of its last change of process.
pub record IsRow (known : Knowledge) (row : Row) : Type 0 where
  pub trace : IsTraceOf (known.traces row.found.folder.now) row.trace
  pub since : IsSince known.times (status_of row.found.look) row.since

abbrev pub founds_of : List Row → List FoundService
founds_of rows = map (λ row. row.found) rows

-- A text grew by the row of a service about which this was found.
pub record AddsRow (known : Knowledge) (now : Tai64n) (found : FoundService) (before after : List ℕ) : Type 0 where
  pub row : Row
  pub found_is : row.found ≡ found
  pub is : IsRow known row
  pub text : after ≡ before ++ row_text now row

-- Each word was looked at, in order, and a text grew by the row of each.
pub record AddsRows (known : Knowledge) (now : Tai64n) (words : List (List ℕ)) (old new : Sight)
    (before after : List ℕ) : Type 0 where
  pub rows : List Row
  pub finds : FindsWords words (founds_of rows) old new
  pub are : AllByRecursion (IsRow known) rows
  pub text : after ≡ before ++ flat_map (row_text now) rows

-- The clock was read.
pub record ReadsClock (old new : Sight) (now : Tai64n) : Type 0 where
  pub unasked : new.calls ≡ old.calls
  pub read : Extended old.readings new.readings (now ∷ [])

-- The clock was read, and then each word was looked at, in order. This is the page about what was found.
pub record Draws (known : Knowledge) (words : List (List ℕ)) (old new : Sight) (page : List ℕ) : Type 0 where
  pub now : Tai64n
  pub middle : Sight
  pub time : List ℕ
  pub rows : List Row
  pub read : ReadsClock old middle now
  pub time_is : IsKnown (known.times now) time
  pub finds : FindsWords words (founds_of rows) middle new
  pub are : AllByRecursion (IsRow known) rows
  pub text : page ≡ page_text time now rows

-- There was no memory: the clock was read, and some words at the front were looked at.
pub record DrawsNone (words : List (List ℕ)) (old new : Sight) : Type 0 where
  pub now : Tai64n
  pub middle : Sight
  pub read : ReadsClock old middle now
  pub finds : FindsFront words middle new

-- The page was written. Then it is reported for each folder that does not exist why, and nothing else is reported.
pub record WritesPage (known : Knowledge) (words : List (List ℕ)) (status : ℕ) (old new : Scene)
    (faults reports : Device) : Type 0 where
  pub page : List ℕ
  pub asked : Option (List Call)
  pub draws : Draws known words old.sight (sight asked new.sight.readings) page
  pub wrote : Wrote old.writer new.writer page
  pub works : Works old.writer new.writer
  pub status_is : status ≡ 0
  pub told : TellsEach (codes "svstat: ") words (telling asked faults) (telling new.sight.calls reports)

-- The writer failed after a front of the page.
pub record WritesFront (known : Knowledge) (words : List (List ℕ)) (status : ℕ) (old new : Scene)
    (faults reports : Device) : Type 0 where
  pub page : List ℕ
  pub draws : Draws known words old.sight new.sight page
  pub wrote : WroteFront old.writer new.writer page
  pub fails : Fails old.writer new.writer
  pub status_is : status ≡ 111
  pub reported : Reports faults reports (svstat_report why.Write new.writer)

-- There was no memory for the page, and nothing was written.
pub record WritesNothing (words : List (List ℕ)) (status : ℕ) (old new : Scene)
    (faults reports : Device) : Type 0 where
  pub draws : DrawsNone words old.sight new.sight
  pub unwritten : new.writer ≡ old.writer
  pub status_is : status ≡ 111
  pub reported : Reports faults reports (svstat_report why.OutOfMemory new.writer)

-- How it ends: the page was written, or a front of it, or nothing.
abbrev pub Writes : (known : Knowledge) (words : List (List ℕ)) (status : ℕ) (old new : Scene) (faults reports : Device)
    → Type 0
Writes known words status old new faults reports =
    WritesPage known words status old new faults reports
    ⊎ (WritesFront known words status old new faults reports ⊎ WritesNothing words status old new faults reports)

abbrev pub PageEnds : (known : Knowledge) (words : List (List ℕ)) (status : ℕ) (sight sees : Sight)
    (writer writes faults reports : Device) → Type 0
PageEnds known words status sight sees writer writes faults reports =
    Writes known words status (scene sight writer) (scene sees writes) faults reports
