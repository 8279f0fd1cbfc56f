-- What the text of a file with a number of seconds means.
use Rattle.std.specs.Prelude.{◌≡◌, ◌⊎◌, ◌<◌, ◌≤◌, ◌+◌, ◌*◌, ◌^◌, ◌==◌, ◌&&◌, ℕ, Bool, not, List, ◌++◌, codes}
use Rattle.std.specs.Prelude.{decimal, nat_le}
use Rattle.svc_system.specs.declared.settings.TheConstants.{FINISH_SECONDS, LONGEST}
use Rattle.svc_record.specs.declared.ticks.TheConstants.{TICKS}

-- The text of a file is this number of seconds, with or without a newline.
abbrev pub IsSeconds : (seconds : ℕ) → List ℕ → Type 0
IsSeconds seconds text = (text ≡ decimal seconds) ⊎ (text ≡ decimal seconds ++ codes "\n")

-- The text of a file is no number of seconds that fits.
abbrev pub IsNoSeconds : List ℕ → Type 0
IsNoSeconds text = (seconds : ℕ) → seconds < 2 ^ 64 → IsSeconds seconds text → ⊥

-- For how many seconds a `finish` may run, by the text of `timeout-finish`. A text that is no number counts as no file.
abbrev pub IsFinishTime : (text : List ℕ) → (seconds : ℕ) → Type 0
IsFinishTime text seconds = IsSeconds seconds text ⊎ (IsNoSeconds text × (seconds ≡ FINISH_SECONDS))

-- whether a `finish` that began at a tick has run for as long as it may; 0 seconds are without a bound
abbrev pub is_late : (seconds tick now : ℕ) → Bool
is_late seconds tick now = not (seconds == 0) && nat_le (tick + seconds * TICKS) now

-- The text of a file is this number of seconds, from 1 to the most that a start may wait.
pub record IsBackoff (seconds : ℕ) (text : List ℕ) : Type 0 where
  pub is : IsSeconds seconds text
  pub some : 0 < seconds
  pub bound : seconds ≤ LONGEST
