-- The first look at services whose restart is waited for: it makes their marks.
use Rattle.std.specs.Prelude.{◌≡◌, ℕ, Bool, false, not, if◌then◌else◌, List, [], ◌∷◌, ◌++◌, Option, Some}
use Rattle.std.specs.Prelude.{None, Result, Ok, Err}
use Rattle.tai_status.specs.Extended.{Extended}
use Rattle.tai_status.specs.Record.{Status}
use Rattle.tai_status.specs.Loading.{loaded_from, status_in}
use Rattle.tai_status.specs.declared.loading.Loaded.{Loaded}
use Rattle.tai_status.specs.declared.record.RecordFault.{RecordFault}
use Rattle.svc_client.specs.Calls.{Call, Reached, ReadStatus}
use Rattle.cmd_svc.specs.Line.{is_running, wants_up}
use Rattle.svc_client.specs.Turns.{InTurn}
use Rattle.svc_client.specs.declared.services.Unreached.{Unreached}
use Rattle.svc_client.specs.declared.services.Unreached.TheVariants.{NotRunning, Denied, Unanswered}
use Rattle.cmd_wait.specs.Finding.{Awaited, service}
use Rattle.cmd_wait.specs.declared.finding.ProcessMark.{ProcessMark}
use Rattle.cmd_wait.specs.declared.finding.WaitFault.{WaitFault}
use Rattle.cmd_wait.specs.declared.finding.WaitFault.TheVariants as fault
use Rattle.cmd_wait.specs.declared.marking.Purpose.{Purpose}
use Rattle.cmd_wait.specs.declared.marking.Purpose.TheVariants.{Waits, Restarts}

-- The results of the calls of a first look. The service did not respond, for this reason; or its status could not be
-- read; or these are its first bytes.
pub data Glimpse : Type 0 where
  Absent : (why : Unreached) → Glimpse
  Unread : Glimpse
  Shown : (bytes : List ℕ) → Glimpse

-- the calls of a first look at the service in a folder; none of them sends anything
abbrev pub calls_of_glimpse : (folder : List ℕ) → Glimpse → List Call
calls_of_glimpse folder (Absent why) = Reached folder (Some why) ∷ []
calls_of_glimpse folder Unread = Reached folder None ∷ ReadStatus folder None ∷ []
calls_of_glimpse folder (Shown bytes) = Reached folder None ∷ ReadStatus folder (Some bytes) ∷ []

-- the process that a record names, if there is one
abbrev pub process_in : Status → Option ProcessMark
process_in status = if is_running status then Some (record { pid = status.pid; label = status.label }) else None

-- A service that is to be restarted must be wanted up.
abbrev pub is_refused : Purpose → Status → Bool
is_refused Waits status = false
is_refused Restarts status = not (wants_up status.want)

abbrev pub mark_in : Purpose → Status → Result (Option ProcessMark) WaitFault
mark_in purpose status = if is_refused purpose status then Err fault.NotWantedUp else Ok (process_in status)

abbrev pub shown_mark : Purpose → Result Loaded RecordFault → Result (Option ProcessMark) WaitFault
shown_mark purpose (Ok loaded) = mark_in purpose (status_in loaded)
shown_mark purpose (Err cause) = Err (fault.Bad cause)

-- A service that is not supervised has no mark, if it is waited for until it is.
abbrev pub unsupervised_mark : (awaits_supervision : Bool) → Result (Option ProcessMark) WaitFault
unsupervised_mark awaits_supervision = if awaits_supervision then Ok None else Err fault.NotSupervised

abbrev pub absent_mark : (awaits_supervision : Bool) → Unreached → Result (Option ProcessMark) WaitFault
absent_mark awaits_supervision NotRunning = unsupervised_mark awaits_supervision
absent_mark awaits_supervision Denied = Err fault.Denied
absent_mark awaits_supervision Unanswered = Err fault.Unanswered

-- the mark that a first look gives, or why there can be none
abbrev pub mark_of : Purpose → (awaits_supervision : Bool) → Glimpse → Result (Option ProcessMark) WaitFault
mark_of purpose awaits_supervision (Absent why) = absent_mark awaits_supervision why
mark_of purpose awaits_supervision Unread = Err fault.Unread
mark_of purpose awaits_supervision (Shown bytes) = shown_mark purpose (loaded_from bytes)

-- The service in a folder was looked at, once, and this came of it.
pub record Glimpses (purpose : Purpose) (awaits_supervision : Bool) (folder : List ℕ)
    (found : Result (Option ProcessMark) WaitFault) (old new : Option (List Call)) : Type 0 where
  pub glimpse : Glimpse
  pub is : found ≡ mark_of purpose awaits_supervision glimpse
  pub calls : Extended old new (calls_of_glimpse folder glimpse)

-- The calls so far, and the services that have their marks.
pub record Marking : Type 0 where
  pub calls : Option (List Call)
  pub marked : List Awaited

abbrev pub marking : (calls : Option (List Call)) (marked : List Awaited) → Marking
marking calls marked = record { calls = calls; marked = marked }

-- One more service got its mark.
pub record Marks (purpose : Purpose) (awaits_supervision : Bool) (folder : List ℕ) (old new : Marking) : Type 0 where
  pub mark : Option ProcessMark
  pub glimpses : Glimpses purpose awaits_supervision folder (Ok mark) old.calls new.calls
  pub marked : new.marked ≡ old.marked ++ service folder mark ∷ []

-- Each of these services got its mark, in order, and nothing else was asked.
abbrev pub MarksEach : Purpose → (awaits_supervision : Bool) (folders : List (List ℕ)) (marked : List Awaited)
    (old new : Option (List Call)) → Type 0
MarksEach purpose awaits_supervision folders marked old new =
    InTurn (Marks purpose awaits_supervision) folders (marking old []) (marking new marked)

-- The services before one got their marks, and that one can have none. Those after it were not looked at.
pub record MarksNot (purpose : Purpose) (awaits_supervision : Bool) (folders : List (List ℕ)) (folder : List ℕ)
    (cause : WaitFault) (old new : Option (List Call)) : Type 0 where
  pub before : List (List ℕ)
  pub after : List (List ℕ)
  pub middle : Option (List Call)
  pub marked : List Awaited
  pub split : folders ≡ before ++ folder ∷ after
  pub marks : MarksEach purpose awaits_supervision before marked old middle
  pub glimpses : Glimpses purpose awaits_supervision folder (Err cause) middle new
