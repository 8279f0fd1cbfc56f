-- What `svstat` writes, and how it ends (cr.yp.to/daemontools/svstat.html).
use Rattle.std.specs.Prelude.{◌≡◌, ◌⊎◌, ℕ, Bool, not, List, [], ◌∷◌, ◌++◌, codes, Option, Some, None, Ok}
use Rattle.std.specs.Prelude.{Err}
use Rattle.tai_status.specs.Label.{Tai64n}
use Rattle.tai_status.specs.Counted.{Device, Fails, Reports, Works, Wrote, WroteFront, device_report}
use Rattle.tai_status.specs.Loading.{loaded_from, status_in}
use Rattle.tai_status.specs.declared.loading.Loaded.{Loaded}
use Rattle.tai_status.specs.declared.record.RecordFault.{RecordFault}
use Rattle.tai_status.specs.declared.record.RecordFault.TheVariants as fault
use Rattle.cmd_svc.specs.Line.{is_running, status_line}
use Rattle.svc_client.specs.Calls.{Call, Reached, ReadStatus, SoughtDown}
use Rattle.cmd_svc.specs.Course.{SeeksCourse}
use Rattle.svc_client.specs.Sight.{Sight, sight}
use Rattle.tai_status.specs.Extended.{Extended}
use Rattle.svc_client.specs.Turns.{InTurn}
use Rattle.cmd_svc.specs.Shown.{shown}
use Rattle.cmd_svc.specs.Missing.{TellsEach, telling}
use Rattle.svc_client.specs.declared.services.Unreached.{Unreached}
use Rattle.svc_client.specs.declared.services.Unreached.TheVariants as unreached
use Rattle.cmd_svc.specs.declared.course.Course.{Course}
use Rattle.cmd_svc.specs.declared.look.ServiceLook.{ServiceLook}
use Rattle.cmd_svc.specs.declared.look.ServiceLook.TheVariants as look
use Rattle.cmd_svc.specs.declared.svstat.SvstatFault.{SvstatFault}
use Rattle.cmd_svc.specs.declared.svstat.SvstatFault.TheVariants as why

-- What `svstat` works with: what its looks do, and the device to which it writes.
pub record Scene : Type 0 where
  pub sight : Sight
  pub writer : Device

abbrev pub scene : (sight : Sight) (writer : Device) → Scene
scene sight writer = record { sight = sight; writer = writer }

-- A look at a service

-- A service was not reached, for this reason, and is asked nothing more.
pub record FindsNone (folder : List ℕ) (why : Unreached) (old new : Sight) : Type 0 where
  pub asked : Extended old.calls new.calls (Reached folder (Some why) ∷ [])
  pub unread : new.readings ≡ old.readings

-- Its status could not be read.
pub record FindsUnread (folder : List ℕ) (old new : Sight) : Type 0 where
  pub asked : Extended old.calls new.calls (Reached folder None ∷ ReadStatus folder None ∷ [])
  pub unread : new.readings ≡ old.readings

-- The bytes that were read are not a record, for this reason.
pub record FindsBad (folder : List ℕ) (cause : RecordFault) (old new : Sight) : Type 0 where
  pub bytes : List ℕ
  pub refused : loaded_from bytes ≡ Err cause
  pub asked : Extended old.calls new.calls (Reached folder None ∷ ReadStatus folder (Some bytes) ∷ [])
  pub unread : new.readings ≡ old.readings

-- The bytes that were read are this record. The service is normally up if no file `down` was found, it was sought what
-- it does that the record does not say, and the clock was read once.
pub record FindsStatus (folder : List ℕ) (loaded : Loaded) (normally_up : Bool) (now : Tai64n) (course : Course)
    (old new : Sight) : Type 0 where
  pub bytes : List ℕ
  pub before : Option (List Call)
  pub is : loaded_from bytes ≡ Ok loaded
  pub asked : Extended old.calls before
      (Reached folder None ∷ ReadStatus folder (Some bytes) ∷ SoughtDown folder (not normally_up) ∷ [])
  pub seeks : SeeksCourse (is_running (status_in loaded)) folder (status_in loaded) course before new.calls
  pub read : Extended old.readings new.readings (now ∷ [])

-- What a look at the service in a folder found
abbrev pub Finds : (folder : List ℕ) → ServiceLook → (old new : Sight) → Type 0
Finds folder (look.Unreached why) old new = FindsNone folder why old new
Finds folder look.Unread old new = FindsUnread folder old new
Finds folder (look.Bad cause) old new = FindsBad folder cause old new
Finds folder (look.Standing loaded normally_up now course) old new =
    FindsStatus folder loaded normally_up now course old new

-- Lines

-- what is said about a service that was not reached, after its folder; and the names of faults of a record
abbrev pub unreached_note : Unreached → List ℕ
unreached_note unreached.NotRunning = codes ": supervise not running"
unreached_note unreached.Denied = codes ": unable to open supervise/ok: Permission denied"
unreached_note unreached.Unanswered = codes ": unable to open supervise/ok: no answer"

abbrev pub fault_name : RecordFault → List ℕ
fault_name fault.Length = codes "Length"
fault_name fault.BadLabel = codes "BadLabel"
fault_name fault.PausedFlag = codes "PausedFlag"
fault_name fault.PausedNoProcess = codes "PausedNoProcess"
fault_name fault.WantByte = codes "WantByte"
fault_name fault.ExitingFlag = codes "ExitingFlag"
fault_name fault.PhaseNumber = codes "PhaseNumber"
fault_name fault.NoSuchState = codes "NoSuchState"

-- the line about a look at the service in a folder, without a newline
abbrev pub look_line : (folder : List ℕ) → ServiceLook → List ℕ
look_line folder (look.Unreached why) = folder ++ unreached_note why
look_line folder look.Unread = folder ++ codes ": unable to read status"
look_line folder (look.Bad cause) = folder ++ codes ": bad status record: " ++ fault_name cause
look_line folder (look.Standing loaded normally_up now course) =
    status_line folder loaded normally_up now course

-- the same as svstat prints it: control characters in the folder's name are escaped, and the line has no others
abbrev pub shown_line : (folder : List ℕ) → ServiceLook → List ℕ
shown_line folder look = shown (look_line folder look)

-- How the line about a look at the service in a folder reads, without a newline
abbrev pub Form : Type 0
Form = (folder : List ℕ) → ServiceLook → List ℕ

-- The service in a folder was looked at, and then the line about that was written, in a form.
pub record Shows (line_of : Form) (folder : List ℕ) (old new : Scene) : Type 0 where
  pub look : ServiceLook
  pub finds : Finds folder look old.sight new.sight
  pub wrote : Wrote old.writer new.writer (line_of folder look ++ 10 ∷ [])
  pub works : Works old.writer new.writer

-- Faults

-- A line was not written: there was no memory for it, or the writer failed after a front of it.
abbrev pub WritesNot : SvstatFault → (line : List ℕ) → (old new : Device) → Type 0
WritesNot why.OutOfMemory line old new = new ≡ old
WritesNot why.Write line old new = WroteFront old new line × Fails old new

-- The service in a folder was looked at, and the line about that was not written.
pub record ShowsNot (line_of : Form) (folder : List ℕ) (cause : SvstatFault) (old new : Scene) : Type 0 where
  pub look : ServiceLook
  pub finds : Finds folder look old.sight new.sight
  pub unwritten : WritesNot cause (line_of folder look ++ 10 ∷ []) old.writer new.writer

-- The words before one have their lines, and that one has none. The words after it are not looked at.
pub record ShowsUpTo (line_of : Form) (words : List (List ℕ)) (old new : Scene) (cause : SvstatFault) : Type 0 where
  pub before : List (List ℕ)
  pub folder : List ℕ
  pub after : List (List ℕ)
  pub words_are : words ≡ before ++ folder ∷ after
  pub middle : Scene
  pub shown : InTurn (Shows line_of) before old middle
  pub fails : ShowsNot line_of folder cause middle new

-- what is reported about a fault; if the writer failed, this includes the cause of its last fault
abbrev pub svstat_report : SvstatFault → (writer : Device) → List ℕ
svstat_report why.OutOfMemory writer = codes "svstat: OutOfMemory" ++ 10 ∷ []
svstat_report why.Write writer = device_report (codes "svstat: ") (codes "write fault") writer

-- Ends

-- Each word has its line. Then it is reported for each folder that does not exist why, and nothing else is reported.
pub record ShowsAll (line_of : Form) (words : List (List ℕ)) (status : ℕ) (old new : Scene) (faults reports : Device)
    : Type 0 where
  pub asked : Option (List Call)
  pub status_is : status ≡ 0
  pub lines : InTurn (Shows line_of) words old (scene (sight asked new.sight.readings) new.writer)
  pub told : TellsEach (codes "svstat: ") words (telling asked faults) (telling new.sight.calls reports)

-- A line could not be written, and it is reported why.
pub record Stops (line_of : Form) (words : List (List ℕ)) (status : ℕ) (old new : Scene) (faults reports : Device)
    : Type 0 where
  pub cause : SvstatFault
  pub stops : ShowsUpTo line_of words old new cause
  pub status_is : status ≡ 111
  pub reported : Reports faults reports (svstat_report cause new.writer)

-- How `svstat` ends, by its words, with lines in a form
abbrev pub SvstatEnds : (line_of : Form) (words : List (List ℕ)) (status : ℕ) (sight sees : Sight)
    (writer writes faults reports : Device) → Type 0
SvstatEnds line_of words status sight sees writer writes faults reports =
    ShowsAll line_of words status (scene sight writer) (scene sees writes) faults reports
    ⊎ Stops line_of words status (scene sight writer) (scene sees writes) faults reports
