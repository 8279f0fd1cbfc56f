-- What `why` finds and writes, and how it ends.
use Rattle.std.specs.Prelude.{◌≡◌, ◌⊎◌, ℕ, Bool, true, false, not, ◌||◌, if◌then◌else◌, List, [], ◌∷◌, ◌++◌, codes}
use Rattle.std.specs.Prelude.{◌≢◌, Option, Some, None, option_map, Ok, Err, is_some}
use Rattle.tai_status.specs.Label.{Tai64n}
use Rattle.tai_status.specs.Extended.{Extended}
use Rattle.tai_status.specs.Counted.{Device, Fails, Reports, Works, Wrote, WroteFront, device_report}
use Rattle.tai_status.specs.Loading.{loaded_from, status_in}
use Rattle.tai_status.specs.Record.{Status}
use Rattle.tai_status.specs.declared.cause.Cause.{Cause}
use Rattle.tai_status.specs.declared.cause.Cause.TheVariants as cause
use Rattle.tai_status.specs.declared.loading.Loaded.{Loaded}
use Rattle.tai_status.specs.declared.record.RecordFault.{RecordFault}
use Rattle.sup_trace.specs.Content.{Content, IsContent}
use Rattle.sup_trace.specs.Text.{trace_text}
use Rattle.sup_trace.specs.Reading.{content_from}
use Rattle.sup_trace.specs.declared.fault.TraceFault.{TraceFault}
use Rattle.cmd_base.specs.Known.{IsKnown}
use Rattle.svc_client.specs.Calls.{Call, Reached, ReadNotice, ReadStatus, SoughtDown, SoughtFolder}
use Rattle.cmd_svc.specs.Course.{SeeksCourse}
use Rattle.cmd_svc.specs.Line.{is_running}
use Rattle.cmd_svc.specs.declared.course.Course.{Course}
use Rattle.svc_client.specs.declared.notice.Notice.TheVariants as notice
use Rattle.svc_client.specs.declared.services.Unreached.{Unreached}
use Rattle.svc_client.specs.declared.services.Unreached.TheVariants as unreached
use Rattle.cmd_svc.specs.Shown.{shown}
use Rattle.cmd_svc.specs.Missing.{TellsEach, telling}
use Rattle.svc_client.specs.Sight.{Sight, sight}
use Rattle.cmd_svc.specs.Svstat.{fault_name}
use Rattle.svc_client.specs.Turns.{InTurn}
use Rattle.svc_record.specs.declared.exit.Exit.{Exit}
use Rattle.cmd_why.specs.Texts.{Knowledge}
use Rattle.cmd_why.specs.Facts.{facts_of, leads_to}
use Rattle.svc_record.specs.Exits.{Reads}
use Rattle.cmd_why.specs.Courses.{time_of_course}
use Rattle.cmd_why.specs.LastEnd.{last_end}
use Rattle.cmd_why.specs.Sentences.{why_line}
use Rattle.cmd_why.specs.Timeline.{bar_of, drawing_lines, left_end}
use Rattle.cmd_why.specs.declared.lines.Absence.{Absence}
use Rattle.cmd_why.specs.declared.lines.Absence.TheVariants as absence
use Rattle.cmd_why.specs.declared.lines.Drawing.{Drawing}
use Rattle.cmd_why.specs.declared.lines.Drawing.TheVariants as drawing
use Rattle.cmd_why.specs.declared.lines.WhyFinding.{WhyFinding}
use Rattle.cmd_why.specs.declared.lines.WhyFinding.TheVariants as found
use Rattle.cmd_why.specs.declared.lines.Picture.{Picture}
use Rattle.cmd_why.specs.declared.lines.Standing.{Standing}
use Rattle.cmd_why.specs.declared.why.ReachOutcome.{ReachOutcome}
use Rattle.cmd_why.specs.declared.why.ReachOutcome.TheVariants as reach
use Rattle.cmd_why.specs.declared.why.WhyFault.{WhyFault}
use Rattle.cmd_why.specs.declared.why.WhyFault.TheVariants as fault

-- Why no supervisor responds, from why the service was not reached, and why its folder could not be looked at

abbrev pub is_denied_socket : Unreached → Bool
is_denied_socket unreached.Denied = true
is_denied_socket other = false

-- Somebody is there, and does not respond.
abbrev pub is_unanswered : Unreached → Bool
is_unanswered unreached.Unanswered = true
is_unanswered other = false

abbrev pub is_denied : Option Cause → Bool
is_denied (Some cause.Denied) = true
is_denied (Some cause.NotPermitted) = true
is_denied other = false

-- There is no such folder, or something else has that name.
abbrev pub is_missing : Option Cause → Bool
is_missing (Some cause.Missing) = true
is_missing (Some cause.NoFolder) = true
is_missing other = false

abbrev pub absence_of : Unreached → Option Cause → Absence
absence_of why looked =
    if is_denied_socket why || is_denied looked then absence.NoPermission
    else if is_missing looked then absence.NoFolder
    else if is_some looked || is_unanswered why then absence.Unreachable
    else absence.Nobody

-- Lines

abbrev pub absence_words : Absence → List ℕ
absence_words absence.NoFolder = codes " is not supervised: there is no such folder."
absence_words absence.NoPermission = codes " can't be reached: no permission."
absence_words absence.Unreachable = codes " can't be reached."
absence_words absence.Nobody = codes " is not supervised: nothing accepts connections at its supervise/ok."

-- the line about what a look at the service in a folder found, without a newline
abbrev pub found_line : (folder : List ℕ) → WhyFinding → List ℕ
found_line folder (found.Absent absence) = folder ++ absence_words absence
found_line folder found.Unread = folder ++ codes " is supervised, but its status can't be read."
found_line folder (found.Bad cause) =
    folder ++ codes " is supervised, but its status is no record: " ++ fault_name cause ++ codes "."
found_line folder (found.Standing s) =
    why_line folder s.loaded s.normally_up s.facts s.last s.course s.course_time.bytes s.time.bytes s.now

-- what is drawn about it
abbrev pub drawing_in : WhyFinding → Drawing
drawing_in (found.Standing s) = s.drawing
drawing_in other = drawing.Unasked

-- that line, with control characters of the folder's name escaped (it has no others), and after it what is drawn
abbrev pub found_text : (folder : List ℕ) → WhyFinding → List ℕ
found_text folder found = shown (found_line folder found) ++ (10 ∷ []) ++ drawing_lines (drawing_in found)

-- Whether a service could not be read. It counts as read if nobody is there.
abbrev pub is_unread : WhyFinding → Bool
is_unread (found.Absent absence.Nobody) = false
is_unread (found.Standing s) = false
is_unread other = true

-- A look at a service

-- Bytes were read that are not a trace, as the fault of a line says.
pub record IsRefused (trace : Option (List ℕ)) : Type 0 where
  pub text : List ℕ
  pub text_is : IsKnown trace text
  pub cause : TraceFault
  pub refused : content_from text ≡ Err cause

-- Bytes were read that are the text of this trace.
pub record IsTraceText (trace : Option (List ℕ)) (content : Content) : Type 0 where
  pub text : List ℕ
  pub text_is : IsKnown trace text
  pub so : IsContent content
  pub is : text ≡ trace_text content

-- what a trace says; None if it is not known to exist, or is refused
abbrev pub IsTraceOf : (trace : Option (List ℕ)) → Option Content → Type 0
IsTraceOf trace None = (trace ≡ None) ⊎ IsRefused trace
IsTraceOf trace (Some content) = IsTraceText trace content

-- What the file `exit` says, if it could be read. None if it is not the line of any exit.
abbrev pub IsExitIn : (text : Option (List ℕ)) → Option Exit → Type 0
IsExitIn None exit = exit ≡ None
IsExitIn (Some text) exit = Reads text exit

-- The file `exit` of the service in a folder was read, and says this.
pub record ReadsExit (folder : List ℕ) (exit : Option Exit) (past now : Option (List Call)) : Type 0 where
  pub text : Option (List ℕ)
  pub says : IsExitIn text exit
  pub asked : Extended past now (ReadNotice folder notice.Exit text ∷ [])

-- This is the picture of a trace for a record, at a clock reading, and the local time of its left end.
pub record IsPicture (times : Tai64n → Option (List ℕ)) (content : Content) (status : Status) (now : Tai64n)
    (picture : Picture) : Type 0 where
  pub bar : picture.bar.bytes ≡ bar_of content (leads_to content status) now
  pub from : IsKnown (times (left_end content now)) picture.from.bytes

abbrev pub IsPictureIn : (times : Tai64n → Option (List ℕ)) → Content → Status → (now : Tai64n) → Drawing → Type 0
IsPictureIn times content status now (drawing.Of picture) = IsPicture times content status now picture
IsPictureIn times content status now other = ⊥

-- what is drawn if a timeline is asked for: the picture of the trace, if there is one
abbrev pub IsDrawing : (times : Tai64n → Option (List ℕ)) → (asked : Bool) → Option Content → Status → (now : Tai64n)
    → Drawing → Type 0
IsDrawing times false content status now drawn = drawn ≡ drawing.Unasked
IsDrawing times true None status now drawn = drawn ≡ drawing.Untraced
IsDrawing times true (Some content) status now drawn = IsPictureIn times content status now drawn

-- The bytes that were read are this record, and the service is normally up if no file `down` was found. Then it was
-- sought what it does that the record does not say.
pub record ReachesStanding (folder : List ℕ) (loaded : Loaded) (normally_up : Bool) (course : Course)
    (past now : Option (List Call)) : Type 0 where
  pub bytes : List ℕ
  pub before : Option (List Call)
  pub is : loaded_from bytes ≡ Ok loaded
  pub seeks : SeeksCourse (is_running (status_in loaded)) folder (status_in loaded) course before now
  pub asked : Extended past before
      (Reached folder None ∷ ReadStatus folder (Some bytes) ∷ SoughtDown folder (not normally_up) ∷ [])

-- The bytes that were read are not a record, for this reason.
pub record ReachesBad (folder : List ℕ) (cause : RecordFault) (past now : Option (List Call)) : Type 0 where
  pub bytes : List ℕ
  pub refused : loaded_from bytes ≡ Err cause
  pub asked : Extended past now (Reached folder None ∷ ReadStatus folder (Some bytes) ∷ [])

-- The service was not reached. Its folder was looked at, and that says why no supervisor responds.
pub record ReachesNobody (folder : List ℕ) (absence : Absence) (past now : Option (List Call)) : Type 0 where
  pub why : Unreached
  pub looked : Option Cause
  pub absence_is : absence ≡ absence_of why looked
  pub asked : Extended past now (Reached folder (Some why) ∷ SoughtFolder folder looked ∷ [])

-- What was asked of the service in a folder, with the results: whether it is supervised, and only then its status. If
-- that is a record, its file `down` was looked for, and it was sought what the service does that the record does not
-- say.
abbrev pub Reaches : (folder : List ℕ) → ReachOutcome → (past now : Option (List Call)) → Type 0
Reaches folder (reach.Absent absence) past now = ReachesNobody folder absence past now
Reaches folder reach.Unread past now = Extended past now (Reached folder None ∷ ReadStatus folder None ∷ [])
Reaches folder (reach.Bad cause) past now = ReachesBad folder cause past now
Reaches folder (reach.Standing loaded normally_up course) past now =
    ReachesStanding folder loaded normally_up course past now

-- The trace of a service was read, then the clock, once, and then the file `exit`. Its state is said from its record,
-- that trace and this reading, and the last end of a process from that trace and that file. A timeline is drawn if it
-- is asked for.
pub record FindsStanding (k : Knowledge) (timeline : Bool) (folder : List ℕ) (loaded : Loaded) (normally_up : Bool)
    (course : Course) (old new : Sight) (s : Standing) : Type 0 where
  pub content : Option Content
  pub trace : IsTraceOf (k.traces folder) content
  pub read : Extended old.readings new.readings (s.now ∷ [])
  pub loaded_is : s.loaded ≡ loaded
  pub normally_is : s.normally_up ≡ normally_up
  pub facts : s.facts ≡ option_map (λ content. facts_of content (status_in loaded) s.now) content
  pub exit : Option Exit
  pub exit_is : ReadsExit folder exit old.calls new.calls
  pub last : s.last ≡ last_end s.facts exit
  pub course_is : s.course ≡ course
  pub course_time : IsKnown (k.times (time_of_course course (status_in loaded).label)) s.course_time.bytes
  pub time : IsKnown (k.times (status_in loaded).label) s.time.bytes
  pub drawing : IsDrawing k.times timeline content (status_in loaded) s.now s.drawing

-- What a look found, from the result of the calls.
abbrev pub Finds : Knowledge → (timeline : Bool) → (folder : List ℕ) → ReachOutcome → WhyFinding → (old new : Sight)
    → Type 0
Finds k timeline folder (reach.Absent absence) (found.Absent content) old new = (content ≡ absence) × (new ≡ old)
Finds k timeline folder reach.Unread found.Unread old new = new ≡ old
Finds k timeline folder (reach.Bad cause) (found.Bad content) old new = (content ≡ cause) × (new ≡ old)
Finds k timeline folder (reach.Standing loaded normally_up course) (found.Standing s) old new =
    FindsStanding k timeline folder loaded normally_up course old new s
Finds k timeline folder other found old new = ⊥

-- There was no memory before the file `exit` was read, or after that.
abbrev pub MayReadExit : (folder : List ℕ) (past now : Option (List Call)) → Type 0
MayReadExit folder past now = (now ≡ past) ⊎ ((exit : Option Exit) × ReadsExit folder exit past now)

-- The service in a folder was asked, and then this was found.
pub record Looks (k : Knowledge) (timeline : Bool) (folder : List ℕ) (found : WhyFinding) (old new : Sight)
    : Type 0 where
  pub reach : ReachOutcome
  pub asked : Option (List Call)
  pub reaches : Reaches folder reach old.calls asked
  pub finds : Finds k timeline folder reach found (sight asked old.readings) new

-- The service was asked, and then there was no memory for what is found.
pub record LooksInPart (folder : List ℕ) (old new : Sight) : Type 0 where
  pub reach : ReachOutcome
  pub asked : Option (List Call)
  pub reaches : Reaches folder reach old.calls asked
  pub may_read : MayReadExit folder asked new.calls

-- Services in turn

-- What `why` works with: what its looks do, the device to which it writes, and whether some service could not be read
-- so far.
pub record Scene : Type 0 where
  pub sight : Sight
  pub writer : Device
  pub unread : Bool

abbrev pub scene : (sight : Sight) (writer : Device) → Bool → Scene
scene sight writer unread = record { sight = sight; writer = writer; unread = unread }

-- The service in a folder was looked at, and then the text about that was written.
pub record Shows (k : Knowledge) (timeline : Bool) (folder : List ℕ) (old new : Scene) : Type 0 where
  pub found : WhyFinding
  pub looks : Looks k timeline folder found old.sight new.sight
  pub wrote : Wrote old.writer new.writer (found_text folder found)
  pub works : Works old.writer new.writer
  pub unread : new.unread ≡ (old.unread || is_unread found)

-- The same, for each value before and after. It says whether some service before this one could not be read, and
-- whether one could not be read so far.
abbrev pub ShowsOne : Knowledge → (timeline : Bool) → (folder : List ℕ) → (sight sees : Sight)
    → (writer writes : Device) → (unread unread_now : Bool) → Type 0
ShowsOne k timeline folder sight sees writer writes unread unread_now =
    Shows k timeline folder (scene sight writer unread) (scene sees writes unread_now)

-- A text was not written: there was no memory for it, or the writer failed after a front of it.
abbrev pub WritesNot : WhyFault → (text : List ℕ) → (old new : Device) → Type 0
WritesNot fault.OutOfMemory text old new = new ≡ old
WritesNot fault.Write text old new = WroteFront old new text × Fails old new

-- There was no memory for the trace of the service in a folder, or for its text. Nothing was written.
pub record LacksMemory (k : Knowledge) (timeline : Bool) (folder : List ℕ) (old new : Scene) : Type 0 where
  pub looks : LooksInPart folder old.sight new.sight
      ⊎ ((found : WhyFinding) × Looks k timeline folder found old.sight new.sight)
  pub unwritten : new.writer ≡ old.writer

-- The service in a folder was looked at, and the writer failed after a front of the text about that.
pub record FailsToWrite (k : Knowledge) (timeline : Bool) (folder : List ℕ) (old new : Scene) : Type 0 where
  pub found : WhyFinding
  pub looks : Looks k timeline folder found old.sight new.sight
  pub front : WroteFront old.writer new.writer (found_text folder found)
  pub fails : Fails old.writer new.writer

abbrev pub FailsToShow : Knowledge → (timeline : Bool) → (folder : List ℕ) → WhyFault → (old new : Scene) → Type 0
FailsToShow k timeline folder fault.OutOfMemory old new = LacksMemory k timeline folder old new
FailsToShow k timeline folder fault.Write old new = FailsToWrite k timeline folder old new

-- The same, for each value before and after. It says whether some service before this one could not be read.
abbrev pub ShowsNot : Knowledge → (timeline : Bool) → (folder : List ℕ) → (sight sees : Sight)
    → (writer writes : Device) → (unread : Bool) → WhyFault → Type 0
ShowsNot k timeline folder sight sees writer writes unread cause =
    FailsToShow k timeline folder cause (scene sight writer unread) (scene sees writes false)

-- Each word has its line. At the end it is known whether some service could not be read.
abbrev pub ShowsEach : Knowledge → (timeline : Bool) → (words : List (List ℕ)) → (sight sees : Sight)
    → (writer writes : Device) → (unread : Bool) → Type 0
ShowsEach k timeline words sight sees writer writes unread =
    InTurn (Shows k timeline) words (scene sight writer false) (scene sees writes unread)

-- The words before one have their lines, and that one has none. The words after it are not looked at.
pub record ShowsUpTo (k : Knowledge) (timeline : Bool) (words : List (List ℕ)) (sight sees : Sight)
    (writer writes : Device) (cause : WhyFault) : Type 0 where
  pub before : List (List ℕ)
  pub folder : List ℕ
  pub after : List (List ℕ)
  pub words_are : words ≡ before ++ folder ∷ after
  pub middle : Scene
  pub shown : InTurn (Shows k timeline) before (scene sight writer false) middle
  pub fails : FailsToShow k timeline folder cause middle (scene sees writes false)

-- what is reported about a fault; if the writer failed, this includes the cause of its last fault
abbrev pub why_report : WhyFault → (writer : Device) → List ℕ
why_report fault.OutOfMemory writer = codes "why: OutOfMemory" ++ 10 ∷ []
why_report fault.Write writer = device_report (codes "why: ") (codes "write fault") writer

-- Ends

-- Each word has its text. Then it is reported for each folder that does not exist why, and nothing else is reported.
-- The status is 0 if each service could be read.
pub record ShowsAll (k : Knowledge) (timeline : Bool) (words : List (List ℕ)) (status : ℕ) (seen sees : Sight)
    (writer writes faults reports : Device) : Type 0 where
  pub unread : Bool
  pub asked : Option (List Call)
  pub texts : ShowsEach k timeline words seen (sight asked sees.readings) writer writes unread
  pub status_is : status ≡ (if unread then 111 else 0)
  pub told : TellsEach (codes "why: ") words (telling asked faults) (telling sees.calls reports)

-- A text could not be written, and it is reported why.
pub record Stops (k : Knowledge) (timeline : Bool) (words : List (List ℕ)) (status : ℕ) (sight sees : Sight)
    (writer writes faults reports : Device) : Type 0 where
  pub cause : WhyFault
  pub stops : ShowsUpTo k timeline words sight sees writer writes cause
  pub status_is : status ≡ 111
  pub reported : Reports faults reports (why_report cause writes)

-- How `why` ends over services, with or without timelines
abbrev pub ShowEnds : Knowledge → (timeline : Bool) → (words : List (List ℕ)) → (status : ℕ) → (sight sees : Sight)
    → (writer writes faults reports : Device) → Type 0
ShowEnds k timeline words status sight sees writer writes faults reports =
    ShowsAll k timeline words status sight sees writer writes faults reports
    ⊎ Stops k timeline words status sight sees writer writes faults reports

-- The first word asks for timelines of the services after it, or it is a service.
pub record FormEnds (k : Knowledge) (word : List ℕ) (services : List (List ℕ)) (status : ℕ) (sight sees : Sight)
    (writer writes faults reports : Device) : Type 0 where
  pub timeline : word ≡ codes "--timeline"
      → ShowEnds k true services status sight sees writer writes faults reports
  pub plain : word ≢ codes "--timeline"
      → ShowEnds k false (word ∷ services) status sight sees writer writes faults reports

-- How `why` ends, by its words
abbrev pub WhyEnds : Knowledge → (words : List (List ℕ)) → (status : ℕ) → (sight sees : Sight)
    → (writer writes faults reports : Device) → Type 0
WhyEnds k [] status sight sees writer writes faults reports =
    ShowEnds k false [] status sight sees writer writes faults reports
WhyEnds k (word ∷ services) status sight sees writer writes faults reports =
    FormEnds k word services status sight sees writer writes faults reports
