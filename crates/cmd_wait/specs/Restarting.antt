-- How `restart` ends.
use Rattle.std.specs.Prelude.{◌≡◌, ◌⊎◌, ℕ, Bool, true, false, List, [], ◌∷◌, codes, flat_map, Option, Some, None}
use Rattle.std.specs.Borrow.{Bor}
use Rattle.tai_status.specs.Counted.{Device, Reports}
use Rattle.cmd_base.specs.Usage.{usage_text}
use Rattle.cmd_base.specs.declared.command.Command.TheVariants as command
use Rattle.svc_client.specs.Calls.{Call}
use Rattle.cmd_svc.specs.Svc.{Serves, sending}
use Rattle.svc_client.specs.Turns.{InTurn}
use Rattle.tai_status.specs.Words.{texts}
use Rattle.cmd_wait.specs.Steps.{Step, sight}
use Rattle.cmd_wait.specs.Words.{Order, AskNoRestart, AsksRestart}
use Rattle.cmd_wait.specs.Finding.{Awaited}
use Rattle.cmd_wait.specs.Marking.{MarksEach}
use Rattle.cmd_wait.specs.Ends.{Scene, scene, FailsFirst, LacksMemory, TellsAfter, WaitsFor, order_of}
use Rattle.cmd_wait.specs.declared.finding.ProcessMark.{ProcessMark}
use Rattle.cmd_wait.specs.declared.options.WaitOptions.{WaitOptions}
use Rattle.cmd_wait.specs.declared.marking.Purpose.TheVariants.{Restarts}

-- the name of the command, as its reports begin; and its warning about a service that can't be reached, up to the
-- folder
abbrev pub restart_name : List ℕ
restart_name = codes "restart: "

abbrev pub restart_warning : List ℕ
restart_warning = codes "restart: warning: unable to control "

-- What is sent: the control byte of `svc -t`, which asks for TERM and CONT.
abbrev pub restart_bytes : List ℕ
restart_bytes = codes "t"

-- The services that have a process get it, in order. For the others there is nothing to end.
abbrev pub sent_at : (folder : List ℕ) → Option ProcessMark → List (List ℕ)
sent_at folder None = []
sent_at folder (Some mark) = folder ∷ []

abbrev pub sent_to : List Awaited → List (List ℕ)
sent_to services = flat_map (λ service. sent_at service.folder service.mark) services

-- What follows the sending. If a service was not reached, the status is 111, and nothing is waited for.
abbrev pub AfterSending : (missed : Bool) → (order : Order) (marked : List Awaited) (status : ℕ) (old new : Scene)
    → Type 0
AfterSending true order marked status old new = (status ≡ 111) × (new ≡ old)
AfterSending false order marked status old new = WaitsFor restart_name order marked status old new

-- Each service got its mark, and is wanted up. Those that have a process were sent the byte, once, and each one that
-- was not reached is reported. Then they are waited for.
pub record SendsThenWaits (order : Order) (status : ℕ) (old new : Scene) : Type 0 where
  pub marked : List Awaited
  pub calls : Option (List Call)
  pub missed : Bool
  pub sent : Scene
  pub marks : MarksEach Restarts order.goal.awaits_supervision order.services marked old.sight.calls calls
  pub sends : InTurn (Serves restart_warning restart_bytes) (sent_to marked)
      (sending calls old.faults false) (sending sent.sight.calls sent.faults missed)
  pub unrested : sent.sight.steps ≡ old.sight.steps
  pub after : AfterSending missed order marked status sent new

-- It restarts services, or a first look found one that can't be restarted, and nothing was sent.
abbrev pub RestartsOrFails : (order : Order) (status : ℕ) (old new : Scene) → Type 0
RestartsOrFails order status old new =
    FailsFirst restart_name Restarts order status old new ⊎ SendsThenWaits order status old new

-- The same as the options say, for each value before and after
abbrev pub RestartsAsked : WaitOptions → (status : ℕ) → (calls asked : Option (List Call))
    → (steps taken : Option (List Step)) → (faults reports : Device) → Type 0
RestartsAsked options status calls asked steps taken faults reports =
    RestartsOrFails (order_of options) status
    (scene (sight calls steps) faults) (scene (sight asked taken) reports)

-- Then it is reported for each folder that does not exist why.
pub record RestartsThenTells (order : Order) (status : ℕ) (old new : Scene) : Type 0 where
  pub restarted : Scene
  pub restarts : RestartsOrFails order status old restarted
  pub tells : TellsAfter restart_name order restarted new

abbrev pub RestartsAndTells : WaitOptions → (status : ℕ) → (calls asked : Option (List Call))
    → (steps taken : Option (List Step)) → (faults reports : Device) → Type 0
RestartsAndTells options status calls asked steps taken faults reports =
    RestartsThenTells (order_of options) status
    (scene (sight calls steps) faults) (scene (sight asked taken) reports)

-- These words ask for no restart: the usage is reported, and nothing is asked.
pub record RefusesRestart (words : List (List ℕ)) (status : ℕ) (old new : Scene) : Type 0 where
  pub wrong : AskNoRestart words
  pub status_is : status ≡ 100
  pub unasked : new.sight ≡ old.sight
  pub reported : Reports old.faults new.faults (usage_text command.Restart)

-- It restarts the services that its words ask for.
pub record RestartsWords (words : List (List ℕ)) (status : ℕ) (old new : Scene) : Type 0 where
  pub order : Order
  pub asks : AsksRestart words order
  pub restarts : LacksMemory restart_name status old new ⊎ RestartsThenTells order status old new

-- How `restart` ends, by its words
abbrev pub EndsByWords : (words : List (List ℕ)) (status : ℕ) (old new : Scene) → Type 0
EndsByWords words status old new = RefusesRestart words status old new ⊎ RestartsWords words status old new

-- The same, for each value before and after
abbrev pub RestartEnds : (words : List (Bor (List ℕ))) (status : ℕ) (calls asked : Option (List Call))
    (steps taken : Option (List Step)) (faults reports : Device) → Type 0
RestartEnds words status calls asked steps taken faults reports =
    EndsByWords (texts words) status (scene (sight calls steps) faults) (scene (sight asked taken) reports)
