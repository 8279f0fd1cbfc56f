-- What a look at a service finds, from the results of its calls.
use Rattle.std.specs.Prelude.{◌≡◌, ◌≤◌, ⊤, ℕ, nat_le, is_some, ◌==◌, map, Bool, true, false, not, ◌&&◌}
use Rattle.std.specs.Prelude.{if◌then◌else◌, List, [], ◌∷◌, ◌++◌}
use Rattle.std.specs.Prelude.{Option, Some, None}
use Rattle.std.specs.Prelude.{Result, Ok}
use Rattle.std.specs.Prelude.{Err}
use Rattle.tai_status.specs.Extended.{Extended}
use Rattle.tai_status.specs.Loading.{loaded_from, status_in}
use Rattle.tai_status.specs.Record.{Status}
use Rattle.tai_status.specs.declared.loading.Loaded.{Loaded}
use Rattle.tai_status.specs.declared.loading.Loaded.TheVariants.{Old, New}
use Rattle.tai_status.specs.declared.phase.Phase.{Phase}
use Rattle.tai_status.specs.declared.phase.Phase.TheVariants as phase
use Rattle.tai_status.specs.declared.record.RecordFault.{RecordFault}
use Rattle.svc_record.specs.declared.moment.Moment.{Moment}
use Rattle.svc_client.specs.Calls.{Call, Reached, ReadNotice, ReadStatus, SoughtAge}
use Rattle.cmd_svc.specs.Course.{IsNoticed, ReadsNotice, about, is_about}
use Rattle.svc_client.specs.declared.notice.Notice.TheVariants as notice
use Rattle.cmd_svc.specs.Line.{is_running}
use Rattle.svc_client.specs.declared.services.Unreached.{Unreached}
use Rattle.svc_client.specs.declared.services.Unreached.TheVariants.{NotRunning, Denied, Unanswered}
use Rattle.cmd_wait.specs.declared.finding.Goal.{Goal}
use Rattle.cmd_wait.specs.declared.finding.ProcessMark.{ProcessMark}
use Rattle.cmd_wait.specs.declared.finding.AwaitedService.{AwaitedService}
use Rattle.cmd_wait.specs.declared.finding.WaitState.{WaitState}
use Rattle.cmd_wait.specs.declared.finding.WaitState.TheVariants as state
use Rattle.cmd_wait.specs.declared.finding.Finding.{Finding}
use Rattle.cmd_wait.specs.declared.finding.Finding.TheVariants.{Reached, Waiting, Failed}
use Rattle.cmd_wait.specs.declared.finding.WaitFault.TheVariants as fault

abbrev pub is_up_phase : Phase → Bool
is_up_phase phase.Up = true
is_up_phase other = false

abbrev pub is_down_phase : Phase → Bool
is_down_phase phase.Down = true
is_down_phase phase.Gone = true
is_down_phase other = false

-- whether a record says that a service is up and settled: its phase says so, or if it has no phase, it has a process
abbrev pub is_up : Loaded → Bool
is_up (Old status) = is_running status
is_up (New full) = is_up_phase full.phase

-- whether a record says that it is down: its phase says so, or if it has no phase, it has no process
abbrev pub is_down : Loaded → Bool
is_down (Old status) = not (is_running status)
is_down (New full) = is_down_phase full.phase

-- Whether a process lives and has lived for two seconds, from its age in hundredths of a second. The service has then
-- been up for a second since it settled.
abbrev pub has_lasted : Option ℕ → Bool
has_lasted None = false
has_lasted (Some age) = nat_le 200 age

-- Services that are waited for

-- A service that is waited for: its folder, and its mark, which is the process that the first look saw there, if there
-- was one.
pub record Awaited : Type 0 where
  pub folder : List ℕ
  pub mark : Option ProcessMark

abbrev pub service : (folder : List ℕ) (mark : Option ProcessMark) → Awaited
service folder mark = record { folder = folder; mark = mark }

-- the services of entries; and those in folders, without a mark
abbrev pub awaited : List AwaitedService → List Awaited
awaited entries = map (λ entry. service entry.folder.now entry.mark) entries

abbrev pub unmarked : List (List ℕ) → List Awaited
unmarked folders = map (λ folder. service folder None) folders

-- the folders of services; and of entries
abbrev pub folders : List Awaited → List (List ℕ)
folders services = map (λ service. service.folder) services

abbrev pub entry_folders : List AwaitedService → List (List ℕ)
entry_folders entries = map (λ entry. entry.folder.now) entries

-- Whether the process of a record is not the one of a mark: it has another number, or it began at another time. If
-- there is no mark, this is so for each process.
abbrev pub is_another : Option ProcessMark → Status → Bool
is_another None status = true
is_another (Some mark) status =
    not ((mark.pid == status.pid) && (mark.label.sec == status.label.sec) && (mark.label.nano == status.label.nano))

-- What a look finds

-- the process whose age is asked for, if the service should be up and its record says that it is, or if it should be
-- ready and its record names a process
abbrev pub process_asked : WaitState → Result Loaded RecordFault → Option ℕ
process_asked state.Up (Ok loaded) = if is_up loaded then Some (status_in loaded).pid else None
process_asked state.Another (Ok loaded) = if is_up loaded then Some (status_in loaded).pid else None
process_asked state.Ready (Ok loaded) = if is_running (status_in loaded) then Some (status_in loaded).pid else None
process_asked other read = None

-- whether it matters that a service is ready
abbrev pub asks_ready : WaitState → Bool
asks_ready state.Ready = true
asks_ready other = false

-- whether the process of a record lives, from its age, and said that it is ready
abbrev pub is_ready : Status → (age : Option ℕ) → (ready : Option Moment) → Bool
is_ready status age ready = is_some age && is_some (about status ready)

-- It was read which process said that it is ready, and when, if that matters.
abbrev pub AsksReady : (asks : Bool) (folder : List ℕ) (ready : Option Moment) (old new : Option (List Call)) → Type 0
AsksReady false folder ready old new = (ready ≡ None) × (new ≡ old)
AsksReady true folder ready old new = ReadsNotice folder notice.Ready ready old new

-- The results of the calls of a look:
--
-- - The service did not respond, for this reason.
-- - Its status could not be read, and may be missing.
-- - These are the first bytes of its status. This is the age of its process, if that was asked for and the process
--   lives.
--   This is the text in which svscan says that a process is ready, if that was read, and what it says.
pub data Sighting : Type 0 where
  Absent : (why : Unreached) → Sighting
  Unread : (is_missing : Bool) → Sighting
  Shown : (bytes : List ℕ) → (age : Option ℕ) → (text : Option (List ℕ)) → (ready : Option Moment) → Sighting

-- A text says what was found in it.
abbrev pub IsSighting : Sighting → Type 0
IsSighting (Shown bytes age text ready) = IsNoticed text ready
IsSighting other = ⊤

-- the call that asks for the age of a process, if there is one to ask about
abbrev pub calls_of_age : (process age : Option ℕ) → List Call
calls_of_age None age = []
calls_of_age (Some process) age = SoughtAge process age ∷ []

-- the call that reads whether a process is ready, if that matters
abbrev pub calls_of_ready : (asks : Bool) (folder : List ℕ) (text : Option (List ℕ)) → List Call
calls_of_ready false folder text = []
calls_of_ready true folder text = ReadNotice folder notice.Ready text ∷ []

-- the calls of a look at the service in a folder
abbrev pub calls_of_look : Goal → (folder : List ℕ) → Sighting → List Call
calls_of_look goal folder (Absent why) = Reached folder (Some why) ∷ []
calls_of_look goal folder (Unread is_missing) = Reached folder None ∷ ReadStatus folder None ∷ []
calls_of_look goal folder (Shown bytes age text ready) =
    (Reached folder None ∷ ReadStatus folder (Some bytes) ∷ [])
    ++ calls_of_age (process_asked goal.state (loaded_from bytes)) age
    ++ calls_of_ready (asks_ready goal.state) folder text

abbrev pub reached_if : Bool → Finding
reached_if reached = if reached then Reached else Waiting

-- A service that is not supervised is what `-x` waits for. Otherwise it is waited for until it is supervised, or it
-- can't be waited for.
abbrev pub unsupervised_in : WaitState → (awaits_supervision : Bool) → Finding
unsupervised_in state.Unsupervised awaits_supervision = Reached
unsupervised_in other true = Waiting
unsupervised_in other false = Failed fault.NotSupervised

abbrev pub unsupervised_finding : Goal → Finding
unsupervised_finding goal = unsupervised_in goal.state goal.awaits_supervision

-- A service that is there and takes no more connections is looked at again.
abbrev pub absent_finding : Goal → Unreached → Finding
absent_finding goal NotRunning = unsupervised_finding goal
absent_finding goal Denied = Failed fault.Denied
absent_finding goal Unanswered = Waiting

-- The status does not matter for whether it is supervised.
abbrev pub unread_in : WaitState → (waits : Bool) → Finding
unread_in state.Unsupervised waits = Waiting
unread_in other true = Waiting
unread_in other false = Failed fault.Unread

-- A status that is missing still comes, if the service is waited for until it is supervised.
abbrev pub unread_finding : Goal → (is_missing : Bool) → Finding
unread_finding goal is_missing = unread_in goal.state (goal.awaits_supervision && is_missing)

-- A service is up if its record says so and its process has lived for two seconds. A service whose process ends sooner,
-- and is restarted each time, is therefore never up. A service is restarted if it is up so, and its process is not the
-- one of its mark. A service is ready if its process lives and said so.
abbrev pub record_finding : WaitState → (mark : Option ProcessMark) → Result Loaded RecordFault → (age : Option ℕ)
    → (ready : Option Moment) → Finding
record_finding state.Unsupervised mark read age ready = Waiting
record_finding state.Up mark (Ok loaded) age ready = reached_if (is_up loaded && has_lasted age)
record_finding state.Up mark (Err cause) age ready = Failed (fault.Bad cause)
record_finding state.Down mark (Ok loaded) age ready = reached_if (is_down loaded)
record_finding state.Down mark (Err cause) age ready = Failed (fault.Bad cause)
record_finding state.Ready mark (Ok loaded) age ready = reached_if (is_ready (status_in loaded) age ready)
record_finding state.Ready mark (Err cause) age ready = Failed (fault.Bad cause)
record_finding state.Another mark (Ok loaded) age ready =
    reached_if (is_up loaded && has_lasted age && is_another mark (status_in loaded))
record_finding state.Another mark (Err cause) age ready = Failed (fault.Bad cause)

abbrev pub finding_of : Goal → (mark : Option ProcessMark) → Sighting → Finding
finding_of goal mark (Absent why) = absent_finding goal why
finding_of goal mark (Unread is_missing) = unread_finding goal is_missing
finding_of goal mark (Shown bytes age text ready) = record_finding goal.state mark (loaded_from bytes) age ready

-- A service was looked at, once, and this was found.
pub record Finds (goal : Goal) (service : Awaited) (finding : Finding) (old new : Option (List Call)) : Type 0 where
  pub sighting : Sighting
  pub says : IsSighting sighting
  pub is : finding ≡ finding_of goal service.mark sighting
  pub calls : Extended old new (calls_of_look goal service.folder sighting)

-- What a look saw of a service that is up: a record that says so, and that the process of that record lived then, and
-- had lived for two seconds.
pub record SeesUp (sighting : Sighting) : Type 0 where
  pub bytes : List ℕ
  pub loaded : Loaded
  pub age : ℕ
  pub text : Option (List ℕ)
  pub ready : Option Moment
  pub saw : sighting ≡ Shown bytes (Some age) text ready
  pub is : loaded_from bytes ≡ Ok loaded
  pub up : is_up loaded ≡ true
  pub lasted : 200 ≤ age
  pub asked : process_asked state.Up (loaded_from bytes) ≡ Some (status_in loaded).pid

-- Every look that finds a service up saw that.
abbrev pub UpLasts : Type 0
UpLasts =
    (goal : Goal) (mark : Option ProcessMark) (sighting : Sighting) → goal.state ≡ state.Up
    → finding_of goal mark sighting ≡ Reached
    → SeesUp sighting

-- What a look saw of a service that was restarted: it is up so, and its process is not the one of the mark.
pub record SeesAnother (mark : Option ProcessMark) (sighting : Sighting) : Type 0 where
  pub up : SeesUp sighting
  pub another : is_another mark (status_in up.loaded) ≡ true

-- Every look that finds a service restarted saw that.
abbrev pub AnotherIsSeen : Type 0
AnotherIsSeen =
    (goal : Goal) (mark : Option ProcessMark) (sighting : Sighting) → goal.state ≡ state.Another
    → finding_of goal mark sighting ≡ Reached
    → SeesAnother mark sighting

-- What a look saw of a service that is ready: the process of its record lived then, and a text of svscan says that this
-- process is ready.
pub record SeesReady (sighting : Sighting) : Type 0 where
  pub bytes : List ℕ
  pub loaded : Loaded
  pub age : ℕ
  pub text : Option (List ℕ)
  pub ready : Moment
  pub saw : sighting ≡ Shown bytes (Some age) text (Some ready)
  pub is : loaded_from bytes ≡ Ok loaded
  pub about : is_about (status_in loaded) ready ≡ true

-- Every look that finds a service ready saw that.
abbrev pub ReadyIsSaid : Type 0
ReadyIsSaid =
    (goal : Goal) (mark : Option ProcessMark) (sighting : Sighting) → goal.state ≡ state.Ready
    → finding_of goal mark sighting ≡ Reached
    → SeesReady sighting
