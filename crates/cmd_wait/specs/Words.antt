-- What the words of `wait` ask for: `wait [-u|-U|-d|-x|-r] [-t SECONDS] SERVICE..`, with the options in either order,
-- and with or without a `--` after them. Words are lists of bytes.
use Rattle.std.specs.Prelude.{◌≡◌, ◌≢◌, ℕ, ◌<◌, ◌^◌, if◌then◌else◌, List, [], ◌∷◌, codes, bytes_eq, decimal, Option}
use Rattle.std.specs.Prelude.{Some}
use Rattle.std.specs.Prelude.{None, is_some, unwrap_or, Bool, true, false}
use Rattle.cmd_svc.specs.Words.{is_end, is_option}
use Rattle.cmd_wait.specs.declared.finding.Goal.{Goal}
use Rattle.cmd_wait.specs.declared.finding.WaitState.{WaitState}
use Rattle.cmd_wait.specs.declared.finding.WaitState.TheVariants.{Up, Ready, Down, Unsupervised, Another}

-- What to wait for, for how many seconds at most, and for which services.
pub record Order : Type 0 where
  pub goal : Goal
  pub limit : Option ℕ
  pub services : List (List ℕ)

abbrev pub order : (goal : Goal) (limit : Option ℕ) (services : List (List ℕ)) → Order
order goal limit services = record { goal = goal; limit = limit; services = services }

abbrev pub goal : (state : WaitState) (awaits_supervision : Bool) → Goal
goal state awaits_supervision = record { state = state; awaits_supervision = awaits_supervision }

-- the state that an option names
abbrev pub state_of : List ℕ → Option WaitState
state_of word =
    if bytes_eq word (codes "-u") then Some Up
    else if bytes_eq word (codes "-U") then Some Ready
    else if bytes_eq word (codes "-d") then Some Down
    else if bytes_eq word (codes "-x") then Some Unsupervised
    else if bytes_eq word (codes "-r") then Some Another
    else None

-- the state that words begin with, and the words after it
abbrev pub first_state : List (List ℕ) → Option WaitState
first_state [] = None
first_state (word ∷ words) = state_of word

abbrev pub behind_state : List (List ℕ) → List (List ℕ)
behind_state [] = []
behind_state (word ∷ words) = if is_some (state_of word) then words else word ∷ words

-- A word is the decimal text of a number of seconds below 2^32.
pub record AreSeconds (word : List ℕ) (seconds : ℕ) : Type 0 where
  pub is : word ≡ decimal seconds
  pub below : seconds < 2 ^ 32

-- The words begin with this time, `-t SECONDS`, or with none.
abbrev pub FirstLimit : (words : List (List ℕ)) (limit : Option ℕ) → Type 0
FirstLimit [] limit = limit ≡ None
FirstLimit (word ∷ []) limit = limit ≡ None
FirstLimit (word ∷ next ∷ words) None = bytes_eq word (codes "-t") ≡ false
FirstLimit (word ∷ next ∷ words) (Some seconds) = (bytes_eq word (codes "-t") ≡ true) × AreSeconds next seconds

-- the words after that
abbrev pub behind_limit : List (List ℕ) → List (List ℕ)
behind_limit [] = []
behind_limit (word ∷ []) = word ∷ []
behind_limit (word ∷ next ∷ words) = if bytes_eq word (codes "-t") then words else word ∷ next ∷ words

-- the services that the words after the options name: all words after a `--`; none, if another option comes next
abbrev pub services_of : List (List ℕ) → List (List ℕ)
services_of [] = []
services_of (word ∷ words) = if is_end word then words else if is_option word then [] else word ∷ words

-- the state after the time, if there was none before it
abbrev pub state_in : List (List ℕ) → Option WaitState
state_in words = if is_some (first_state words) then first_state words else first_state (behind_limit words)

abbrev pub behind_options : List (List ℕ) → List (List ℕ)
behind_options words =
    if is_some (first_state words) then behind_limit (behind_state words) else behind_state (behind_limit words)

-- The words ask for this. If they name no state, services must be up. If they name a time, a
-- service that is not supervised is waited for. They name at least one service.
pub record Asks (words : List (List ℕ)) (order : Order) : Type 0 where
  pub goal_is : order.goal ≡ goal (unwrap_or (state_in words) Up) (is_some order.limit)
  pub limit_is : FirstLimit (behind_state words) order.limit
  pub services_are : order.services ≡ services_of (behind_options words)
  pub some : order.services ≢ []

-- The words ask for nothing.
abbrev pub AskNothing : (words : List (List ℕ)) → Type 0
AskNothing words = (order : Order) → Asks words order → ⊥

-- What the words of `restart` ask for: `restart [-t SECONDS] SERVICE..`

-- The words ask for this: that each service is up with another process. They name at least one service.
pub record AsksRestart (words : List (List ℕ)) (order : Order) : Type 0 where
  pub goal_is : order.goal ≡ goal Another (is_some order.limit)
  pub limit_is : FirstLimit words order.limit
  pub services_are : order.services ≡ services_of (behind_limit words)
  pub some : order.services ≢ []

-- The words ask for no restart.
abbrev pub AskNoRestart : (words : List (List ℕ)) → Type 0
AskNoRestart words = (order : Order) → AsksRestart words order → ⊥
