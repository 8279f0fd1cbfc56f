-- How long a process has lived.
use Rattle.std.specs.Prelude.{ℕ, ◌+◌, ◌-◌, max}

-- How many ticks, at least, a process has lived that began at a tick. `now` is the present reading of the clock that
-- stops while the computer sleeps, and `first` an earlier one. This process began at the tick `own`, before that
-- earlier reading.
abbrev pub age_at : (began own first now : ℕ) → ℕ
age_at began own first now = max now (own + (now - first)) - began
