-- What a service does that its status does not say, and how that is found.
use Rattle.std.specs.Prelude.{◌≡◌, ℕ, ◌==◌, ◌-◌, ◌&&◌, Bool, true, false, not, is_some, if◌then◌else◌, List, []}
use Rattle.std.specs.Prelude.{◌∷◌, ◌++◌}
use Rattle.std.specs.Prelude.{codes, decimal, Option, Some, None}
use Rattle.tai_status.specs.Extended.{Extended}
use Rattle.tai_status.specs.Label.{Tai64n, is_earlier}
use Rattle.tai_status.specs.Record.{Status}
use Rattle.svc_record.specs.Moments.{IsMomentIn}
use Rattle.svc_record.specs.declared.moment.Moment.{Moment}
use Rattle.svc_client.specs.Calls.{Call, ReadNotice, SoughtFinish}
use Rattle.cmd_svc.specs.declared.course.Course.{Course}
use Rattle.cmd_svc.specs.declared.course.Course.TheVariants.{BackingOff, Finishing, Plain, Ready}
use Rattle.svc_client.specs.declared.notice.Notice.{Notice}
use Rattle.svc_client.specs.declared.notice.Notice.TheVariants as notice

-- A notice is about the process of a record if it has its number, and is not earlier than its start.
abbrev pub is_about : Status → Moment → Bool
is_about status moment = (moment.pid == status.pid) && not (is_earlier moment.label status.label)

-- the time of a notice that is about the process of a record
abbrev pub about : Status → Option Moment → Option Tai64n
about status None = None
about status (Some moment) = if is_about status moment then Some moment.label else None

-- What the text of a notice says, if it could be read.
abbrev pub IsNoticed : (text : Option (List ℕ)) → Option Moment → Type 0
IsNoticed None moment = moment ≡ None
IsNoticed (Some text) moment = IsMomentIn text moment

-- A notice was read, and says this.
pub record ReadsNotice (folder : List ℕ) (notice : Notice) (moment : Option Moment) (old new : Option (List Call))
    : Type 0 where
  pub text : Option (List ℕ)
  pub says : IsNoticed text moment
  pub asked : Extended old new (ReadNotice folder notice text ∷ [])

-- A `finish` was looked for.
abbrev pub SeeksFinish : (folder : List ℕ) (has : Bool) (old new : Option (List Call)) → Type 0
SeeksFinish folder has old new = Extended old new (SoughtFinish folder has ∷ [])

-- what a service does whose process has ended: its next start waits, or its `finish` runs, if it has one
abbrev pub ended_course : (until : Option Tai64n) → (has_finish : Bool) → Course
ended_course (Some until) has_finish = BackingOff until
ended_course None true = Finishing
ended_course None false = Plain

-- what a service does whose process lives: it is ready, or nothing more is known
abbrev pub running_course : (ready : Option Tai64n) → Course
running_course (Some label) = Ready label
running_course None = Plain

-- The process has ended: the wait of the next start was read, and then a `finish` was looked for.
pub record AsksEnded (folder : List ℕ) (status : Status) (course : Course) (old new : Option (List Call)) : Type 0 where
  pub backoff : Option Moment
  pub has_finish : Bool
  pub mid : Option (List Call)
  pub reads : ReadsNotice folder notice.Backoff backoff old mid
  pub seeks : SeeksFinish folder has_finish mid new
  pub is : course ≡ ended_course (about status backoff) has_finish

-- The process lives: its readiness was read.
pub record AsksRunning (folder : List ℕ) (status : Status) (course : Course) (old new : Option (List Call)) : Type 0 where
  pub ready : Option Moment
  pub reads : ReadsNotice folder notice.Ready ready old new
  pub is : course ≡ running_course (about status ready)

abbrev pub AsksBy : (has_ended : Bool) (folder : List ℕ) (status : Status) (course : Course)
    (old new : Option (List Call)) → Type 0
AsksBy true folder status course old new = AsksEnded folder status course old new
AsksBy false folder status course old new = AsksRunning folder status course old new

-- The notice of the last end was read, to find whether the process of a record has ended. What it does was asked by
-- that.
pub record AsksProcess (folder : List ℕ) (status : Status) (course : Course) (old new : Option (List Call)) : Type 0 where
  pub exit : Option Moment
  pub mid : Option (List Call)
  pub reads : ReadsNotice folder notice.Exit exit old mid
  pub asks : AsksBy (is_some (about status exit)) folder status course mid new

-- It was sought what a service does that its record does not say. If it does not run, nothing is asked.
abbrev pub SeeksCourse : (runs : Bool) (folder : List ℕ) (status : Status) (course : Course)
    (old new : Option (List Call)) → Type 0
SeeksCourse false folder status course old new = (course ≡ Plain) × (new ≡ old)
SeeksCourse true folder status course old new = AsksProcess folder status course old new

-- the note on it at the end of a line
abbrev pub course_note : Course → (now : Tai64n) → List ℕ
course_note Plain now = []
course_note (Ready label) now = codes ", ready " ++ decimal (now.sec - label.sec) ++ codes " seconds"
course_note Finishing now = codes ", finishing"
course_note (BackingOff until) now = codes ", backoff " ++ decimal (until.sec - now.sec) ++ codes " seconds"
