-- How services are waited for, in rounds.
use Rattle.std.specs.Prelude.{◌≡◌, ◌≢◌, ◌⊎◌, ⊤, ℕ, List, [], ◌∷◌, ◌++◌, map, flat_map, All, Option}
use Rattle.tai_status.specs.Extended.{Extended}
use Rattle.svc_client.specs.Calls.{Call}
use Rattle.cmd_wait.specs.Steps.{Read, Sight, IsOver}
use Rattle.cmd_wait.specs.Finding.{IsSighting, Sighting, Awaited, service, calls_of_look, finding_of, folders, Finds}
use Rattle.cmd_wait.specs.Watching.{Watched, watched, Pauses}
use Rattle.cmd_wait.specs.Words.{Order}
use Rattle.cmd_wait.specs.declared.finding.Goal.{Goal}
use Rattle.cmd_wait.specs.declared.finding.Finding.{Finding}
use Rattle.cmd_wait.specs.declared.finding.Finding.TheVariants.{Reached, Waiting, Failed}
use Rattle.cmd_wait.specs.declared.finding.WaitFault.{WaitFault}
use Rattle.cmd_wait.specs.declared.finding.ProcessMark.{ProcessMark}
use Rattle.cmd_wait.specs.declared.rounds.Failure.{Failure}

-- Looks at services, one after the other

-- A look at a service.
pub record Look : Type 0 where
  pub service : Awaited
  pub sighting : Sighting
  pub says : IsSighting sighting

-- the services that were looked at
abbrev pub seen : List Look → List Awaited
seen looks = map (λ look. look.service) looks

abbrev pub calls_of : Goal → List Look → List Call
calls_of goal looks = flat_map (λ look. calls_of_look goal look.service.folder look.sighting) looks

-- This finding is not a failure.
abbrev pub GoesOn : Finding → Type 0
GoesOn Reached = ⊤
GoesOn Waiting = ⊤
GoesOn (Failed fault) = ⊥

-- the service, if it was not found as it should be
abbrev pub left_at : (service : Awaited) → Finding → List Awaited
left_at service Reached = []
left_at service Waiting = service ∷ []
left_at service (Failed fault) = service ∷ []

-- the services that were not found as they should be, in their order
abbrev pub left_by : Goal → List Look → List Awaited
left_by goal looks =
    flat_map (λ look. left_at look.service (finding_of goal look.service.mark look.sighting)) looks

-- The first of these services were looked at, each once. None of them failed, and these are left. The services `after`
-- were not looked at.
pub record LooksAt (goal : Goal) (services left after : List Awaited) (old new : Option (List Call)) : Type 0 where
  pub looks : List Look
  pub split : services ≡ seen looks ++ after
  pub goes_on : All (λ look. GoesOn (finding_of goal look.service.mark look.sighting)) looks
  pub left_is : left ≡ left_by goal looks
  pub calls : Extended old new (calls_of goal looks)

-- After looks at the services before it, the look at the service in a folder found that it can't be waited for.
pub record FailsAt (goal : Goal) (services : List Awaited) (folder : List ℕ) (fault : WaitFault)
    (old new : Option (List Call)) : Type 0 where
  pub mark : Option ProcessMark
  pub left : List Awaited
  pub after : List Awaited
  pub middle : Option (List Call)
  pub looked : LooksAt goal services left (service folder mark ∷ after) old middle
  pub fails : Finds goal (service folder mark) (Failed fault) middle new

-- A look failed this way.
abbrev pub FailsWith : (failure : Failure) (goal : Goal) (services : List Awaited) (old new : Option (List Call))
    → Type 0
FailsWith failure goal services old new = FailsAt goal services failure.folder.now failure.fault old new

-- Rounds, one after the other

-- A round: the clock is read, and then each of these services is looked at, once. These are left.
pub record TakesRound (order : Order) (now : ℕ) (services left : List Awaited) (old new : Sight) : Type 0 where
  pub read : Extended old.steps new.steps (Read now ∷ [])
  pub looked : LooksAt order.goal services left [] old.calls new.calls

-- A round that is not the last: services are left, the time was not over when it began, and a pause follows.
pub record Repeats (order : Order) (begin : ℕ) (services left : List Awaited) (old new : Watched) : Type 0 where
  pub now : ℕ
  pub middle : Sight
  pub takes : TakesRound order now services left old.sight middle
  pub some : left ≢ []
  pub in_time : IsOver order.limit begin now → ⊥
  pub pauses : Pauses order.limit begin (folders left) (watched old.watch middle) new

-- Rounds that are not the last were made, beginning with these services. Each went over those that the one before it
-- left.
pub data Waits (order : Order) (begin : ℕ) (services : List Awaited) (old : Watched)
    : (left : List Awaited) → (now : Watched) → Type 0 where
  none : Waits order begin services old services old
  more : {left after : List Awaited} {now new : Watched} → Waits order begin services old left now
      → Repeats order begin left after now new → Waits order begin services old after new

-- What they found

-- the looks of these rounds
abbrev pub looks_of : {order : Order} {begin : ℕ} {services : List Awaited} {old : Watched}
    {left : List Awaited} {now : Watched} → Waits order begin services old left now → List Look
looks_of none = []
looks_of (more waits round) = looks_of waits ++ round.takes.looked.looks

-- A service is one of these.
abbrev pub IsAmong : (one : Awaited) (services : List Awaited) → Type 0
IsAmong one [] = ⊥
IsAmong one (other ∷ services) = (other ≡ one) ⊎ IsAmong one services

-- One of these looks found it as it should be.
abbrev pub IsFound : (goal : Goal) (one : Awaited) (looks : List Look) → Type 0
IsFound goal one [] = ⊥
IsFound goal one (look ∷ looks) =
    ((look.service ≡ one) × (finding_of goal one.mark look.sighting ≡ Reached)) ⊎ IsFound goal one looks
