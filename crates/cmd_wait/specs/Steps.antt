-- What a wait asks of its pace, with the results, and what it has done so far.
use Rattle.std.specs.Prelude.{ℕ, ◌-◌, ◌*◌, ◌≤◌, List, Option, Some, None}
use Rattle.svc_client.specs.Calls.{Call}

-- The clock was read, and showed this many milliseconds; or the wait rested.
pub data Step : Type 0 where
  Read : (milliseconds : ℕ) → Step
  Rested : Step

-- What a wait has done: the calls for services, and the steps of its pace.
pub record Sight : Type 0 where
  pub calls : Option (List Call)
  pub steps : Option (List Step)

abbrev pub sight : (calls : Option (List Call)) (steps : Option (List Step)) → Sight
sight calls steps = record { calls = calls; steps = steps }

-- The time, if there is a limit, is over between two readings of the clock.
abbrev pub IsOver : (limit : Option ℕ) (begin now : ℕ) → Type 0
IsOver None begin now = ⊥
IsOver (Some seconds) begin now = 1000 * seconds ≤ now - begin
