-- How `wait` ends.
use Rattle.std.specs.Prelude.{◌≡◌, ◌≢◌, ◌⊎◌, ℕ, List, [], ◌∷◌, ◌++◌, codes, Option}
use Rattle.std.specs.Borrow.{Bor}
use Rattle.tai_status.specs.Counted.{Device, Reports}
use Rattle.tai_status.specs.Extended.{Extended}
use Rattle.tai_status.specs.declared.record.RecordFault.{RecordFault}
use Rattle.cmd_base.specs.Usage.{usage_text}
use Rattle.cmd_base.specs.declared.command.Command.TheVariants as command
use Rattle.cmd_svc.specs.Svstat.{fault_name}
use Rattle.svc_client.specs.Calls.{Call}
use Rattle.svc_client.specs.Turns.{InTurn}
use Rattle.cmd_svc.specs.Missing.{TellsEach, telling}
use Rattle.tai_status.specs.Words.{texts}
use Rattle.cmd_wait.specs.Steps.{Step, Read, Sight, sight, IsOver}
use Rattle.cmd_wait.specs.Watching.{Watched, watched, first_watch}
use Rattle.cmd_wait.specs.Words.{Order, order, Asks, AskNothing}
use Rattle.cmd_wait.specs.Finding.{Awaited, unmarked, folders}
use Rattle.cmd_wait.specs.Marking.{MarksEach, MarksNot}
use Rattle.cmd_wait.specs.Rounds.{Look, TakesRound, FailsAt, Waits, looks_of, IsAmong, IsFound}
use Rattle.cmd_wait.specs.declared.finding.WaitState.{WaitState}
use Rattle.cmd_wait.specs.declared.finding.WaitState.TheVariants as state
use Rattle.cmd_wait.specs.declared.finding.WaitFault.{WaitFault}
use Rattle.cmd_wait.specs.declared.options.WaitOptions.{WaitOptions}
use Rattle.cmd_wait.specs.declared.marking.Purpose.{Purpose}
use Rattle.cmd_wait.specs.declared.marking.Purpose.TheVariants as aim
use Rattle.cmd_wait.specs.declared.finding.WaitFault.TheVariants as fault

-- What `wait` works with: the calls and steps so far, and the device on which it reports faults.
pub record Scene : Type 0 where
  pub sight : Sight
  pub faults : Device

abbrev pub scene : (sight : Sight) (faults : Device) → Scene
scene sight faults = record { sight = sight; faults = faults }

-- Messages

-- why a status is not a record, as it is reported after the folder
abbrev pub bad_note : RecordFault → List ℕ
bad_note cause = codes ": bad status record: " ++ fault_name cause ++ 10 ∷ []

-- why a service can't be waited for, as it is reported after its folder
abbrev pub fault_note : WaitFault → List ℕ
fault_note fault.NotSupervised = codes ": supervise not running" ++ 10 ∷ []
fault_note fault.Denied = codes ": unable to open supervise/ok: Permission denied" ++ 10 ∷ []
fault_note fault.Unread = codes ": unable to read status" ++ 10 ∷ []
fault_note (fault.Bad cause) = bad_note cause
fault_note fault.Unanswered = codes ": unable to open supervise/ok: no answer" ++ 10 ∷ []
fault_note fault.NotWantedUp = codes ": not wanted up" ++ 10 ∷ []

-- that the time is over, as it is reported after a service's folder
abbrev pub over_note : WaitState → List ℕ
over_note state.Up = codes ": not up in time" ++ 10 ∷ []
over_note state.Ready = codes ": not ready in time" ++ 10 ∷ []
over_note state.Down = codes ": not down in time" ++ 10 ∷ []
over_note state.Unsupervised = codes ": still supervised" ++ 10 ∷ []
over_note state.Another = codes ": not restarted in time" ++ 10 ∷ []

-- the name of the command, as its reports begin
abbrev pub wait_name : List ℕ
wait_name = codes "wait: "

-- what a command reports about a service; and about a lack of memory
abbrev pub report_of : (name folder note : List ℕ) → List ℕ
report_of name folder note = name ++ (folder ++ note)

abbrev pub memory_report : (name : List ℕ) → List ℕ
memory_report name = name ++ codes "OutOfMemory" ++ 10 ∷ []

-- It was reported about a service that the time is over.
abbrev pub ReportsOver : (name : List ℕ) → WaitState → (folder : List ℕ) (old new : Device) → Type 0
ReportsOver name state folder old new = Reports old new (report_of name folder (over_note state))

-- the exit status for a service that can't be waited for
abbrev pub fault_status : WaitFault → ℕ
fault_status fault.NotSupervised = 102
fault_status fault.Denied = 111
fault_status fault.Unread = 111
fault_status (fault.Bad cause) = 111
fault_status fault.Unanswered = 111
fault_status fault.NotWantedUp = 100

-- The last round

-- It left no service: the status is 0, and nothing is reported. Each service that was asked for was found as it should
-- be, by a look of this round or of an earlier one.
pub record Reaches (order : Order) (asked : List Awaited) (before : List Look) (services : List Awaited) (status : ℕ)
    (old new : Scene) : Type 0 where
  pub now : ℕ
  pub takes : TakesRound order now services [] old.sight new.sight
  pub status_is : status ≡ 0
  pub unreported : new.faults ≡ old.faults
  pub found : (one : Awaited) → IsAmong one asked → IsFound order.goal one (before ++ takes.looked.looks)

-- It left services, and the time was over when it began: the status is 99, and each of these services is reported.
pub record RunsOut (name : List ℕ) (order : Order) (begin : ℕ) (services : List Awaited) (status : ℕ)
    (old new : Scene) : Type 0 where
  pub now : ℕ
  pub left : List Awaited
  pub takes : TakesRound order now services left old.sight new.sight
  pub some : left ≢ []
  pub over : IsOver order.limit begin now
  pub status_is : status ≡ 99
  pub reported : InTurn (ReportsOver name order.goal.state) (folders left) old.faults new.faults

-- A look found a service that can't be waited for. It is reported why, with the status for that, and no service after
-- it is looked at.
pub record Fails (name : List ℕ) (order : Order) (services : List Awaited) (status : ℕ) (old new : Scene)
    : Type 0 where
  pub now : ℕ
  pub folder : List ℕ
  pub fault : WaitFault
  pub read : Extended old.sight.steps new.sight.steps (Read now ∷ [])
  pub fails : FailsAt order.goal services folder fault old.sight.calls new.sight.calls
  pub status_is : status ≡ fault_status fault
  pub reported : Reports old.faults new.faults (report_of name folder (fault_note fault))

-- How the last round ends, after these looks and with the services that they left.
abbrev pub EndsBy : (name : List ℕ) (order : Order) (asked : List Awaited) (begin : ℕ) (before : List Look)
    (services : List Awaited) (status : ℕ) (old new : Scene) → Type 0
EndsBy name order asked begin before services status old new =
    Reaches order asked before services status old new
    ⊎ (RunsOut name order begin services status old new ⊎ Fails name order services status old new)

-- The clock is read. Then rounds over the services that are asked for follow, and the last one ends the wait.
pub record WaitsFor (name : List ℕ) (order : Order) (asked : List Awaited) (status : ℕ) (old new : Scene)
    : Type 0 where
  pub begin : ℕ
  pub begun : Sight
  pub left : List Awaited
  pub middle : Watched
  pub read : Extended old.sight.steps begun.steps (Read begin ∷ [])
  pub unasked : begun.calls ≡ old.sight.calls
  pub waits : Waits order begin asked (watched first_watch begun) left middle
  pub ends : EndsBy name order asked begin (looks_of waits) left status (scene middle.sight old.faults) new

-- First looks

-- A first look found a service that can have no mark. It is reported why, with the status for that. The pace was not
-- asked, and nothing was sent: all calls are those of first looks.
pub record FailsFirst (name : List ℕ) (purpose : Purpose) (order : Order) (status : ℕ) (old new : Scene)
    : Type 0 where
  pub folder : List ℕ
  pub fault : WaitFault
  pub fails : MarksNot purpose order.goal.awaits_supervision order.services folder fault old.sight.calls new.sight.calls
  pub unrested : new.sight.steps ≡ old.sight.steps
  pub status_is : status ≡ fault_status fault
  pub reported : Reports old.faults new.faults (report_of name folder (fault_note fault))

-- Each service got its mark by a first look, and is then waited for.
pub record MarksThenWaits (order : Order) (status : ℕ) (old new : Scene) : Type 0 where
  pub marked : List Awaited
  pub calls : Option (List Call)
  pub marks : MarksEach aim.Waits order.goal.awaits_supervision order.services marked old.sight.calls calls
  pub waits : WaitsFor wait_name order marked status (scene (sight calls old.sight.steps) old.faults) new

-- It does so, or a first look found a service that can have no mark.
abbrev pub MarksOrFails : (order : Order) (status : ℕ) (old new : Scene) → Type 0
MarksOrFails order status old new =
    FailsFirst wait_name aim.Waits order status old new ⊎ MarksThenWaits order status old new

-- For another process, there are first looks. Otherwise services are waited for without marks.
abbrev pub WaitsByState : WaitState → (order : Order) (status : ℕ) (old new : Scene) → Type 0
WaitsByState state.Another order status old new = MarksOrFails order status old new
WaitsByState other order status old new = WaitsFor wait_name order (unmarked order.services) status old new

-- After all that, it is reported for each folder that does not exist why.
pub record TellsAfter (name : List ℕ) (order : Order) (old new : Scene) : Type 0 where
  pub rested : new.sight.steps ≡ old.sight.steps
  pub told : TellsEach name order.services (telling old.sight.calls old.faults) (telling new.sight.calls new.faults)

-- It waits, and then it is reported for each folder that does not exist why.
pub record WaitsThenTells (order : Order) (status : ℕ) (old new : Scene) : Type 0 where
  pub waited : Scene
  pub waits : WaitsByState order.goal.state order status old waited
  pub tells : TellsAfter wait_name order waited new

-- what the options ask for
abbrev pub order_of : WaitOptions → Order
order_of options = order options.goal options.limit (texts options.services.now)

-- It waits for services as the options say.
abbrev pub WaitsAsked : (name : List ℕ) → WaitOptions → (asked : List Awaited) (status : ℕ)
    → (calls looked : Option (List Call)) → (steps taken : Option (List Step)) → (faults reports : Device) → Type 0
WaitsAsked name options asked status calls looked steps taken faults reports =
    WaitsFor name (order_of options) asked status
    (scene (sight calls steps) faults) (scene (sight looked taken) reports)

-- The same after first looks, and after those that there are
abbrev pub MarksAsked : WaitOptions → (status : ℕ) → (calls asked : Option (List Call))
    → (steps taken : Option (List Step)) → (faults reports : Device) → Type 0
MarksAsked options status calls asked steps taken faults reports =
    MarksOrFails (order_of options) status
    (scene (sight calls steps) faults) (scene (sight asked taken) reports)

abbrev pub WaitsMarked : WaitOptions → (status : ℕ) → (calls asked : Option (List Call))
    → (steps taken : Option (List Step)) → (faults reports : Device) → Type 0
WaitsMarked options status calls asked steps taken faults reports =
    WaitsByState options.goal.state (order_of options) status
    (scene (sight calls steps) faults) (scene (sight asked taken) reports)

-- The same, and then it is reported for each folder that does not exist why.
abbrev pub WaitsAndTells : WaitOptions → (status : ℕ) → (calls asked : Option (List Call))
    → (steps taken : Option (List Step)) → (faults reports : Device) → Type 0
WaitsAndTells options status calls asked steps taken faults reports =
    WaitsThenTells (order_of options) status
    (scene (sight calls steps) faults) (scene (sight asked taken) reports)

-- Ends

-- These words ask for nothing: the usage is reported, and nothing is asked.
pub record RefusesWords (words : List (List ℕ)) (status : ℕ) (old new : Scene) : Type 0 where
  pub wrong : AskNothing words
  pub status_is : status ≡ 100
  pub unasked : new.sight ≡ old.sight
  pub reported : Reports old.faults new.faults (usage_text command.Wait)

-- There is no memory for the list of services that are left: nothing is asked, and the lack is reported.
pub record LacksMemory (name : List ℕ) (status : ℕ) (old new : Scene) : Type 0 where
  pub status_is : status ≡ 111
  pub unasked : new.sight ≡ old.sight
  pub reported : Reports old.faults new.faults (memory_report name)

-- It waits as its words ask.
pub record WaitsWords (words : List (List ℕ)) (status : ℕ) (old new : Scene) : Type 0 where
  pub order : Order
  pub asks : Asks words order
  pub waits : LacksMemory wait_name status old new ⊎ WaitsThenTells order status old new

-- How `wait` ends, by its words
abbrev pub EndsByWords : (words : List (List ℕ)) (status : ℕ) (old new : Scene) → Type 0
EndsByWords words status old new = RefusesWords words status old new ⊎ WaitsWords words status old new

-- The same, for each value before and after.
abbrev pub WaitEnds : (words : List (Bor (List ℕ))) (status : ℕ) (calls asked : Option (List Call))
    (steps taken : Option (List Step)) (faults reports : Device) → Type 0
WaitEnds words status calls asked steps taken faults reports =
    EndsByWords (texts words) status (scene (sight calls steps) faults) (scene (sight asked taken) reports)
