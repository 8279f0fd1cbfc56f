-- When the next start of a service waits, because its processes end too often.
use Rattle.std.specs.Prelude.{◌+◌, ◌-◌, ◌*◌, ◌^◌, ℕ, Bool, true, false, nat_le, nat_lt, if◌then◌else◌}
use Rattle.std.specs.Prelude.{List, [], ◌∷◌, ◌++◌, drop, length, min}
use Rattle.tai_status.specs.Label.{Tai64n, greatest}
use Rattle.sup_core.specs.declared.asks.Sig.{Sig}
use Rattle.sup_core.specs.declared.asks.Sig.TheVariants as sig
use Rattle.svc_record.specs.declared.ticks.TheConstants.{TICKS}
use Rattle.svc_world.specs.declared.backoff.TheConstants.{MINUTE}

-- A signal asks a process to end, unless it stops it or lets it continue.
abbrev pub asks_end : Sig → Bool
asks_end sig.STOP = false
asks_end sig.CONT = false
asks_end other = true

-- the last four of some ticks
abbrev pub last_four : List ℕ → List ℕ
last_four ticks = drop (length ticks - 4) ticks

-- whether an end at this tick is the fifth within a minute, after ends at these ticks: the first of these four came at
-- most `MINUTE` seconds before
abbrev pub is_fifth : (tick : ℕ) → List ℕ → Bool
is_fifth tick (first ∷ second ∷ third ∷ fourth ∷ []) = nat_le tick (first + MINUTE * TICKS)
is_fifth tick other = false

-- the tick that comes this many seconds after another one, or the last tick
abbrev pub tick_after : (seconds tick : ℕ) → ℕ
tick_after seconds tick = min (tick + seconds * TICKS) (2 ^ 64 - 1)

-- the label of a time this many seconds later
abbrev pub seconds_after : (seconds : ℕ) → Tai64n → Tai64n
seconds_after seconds label =
    if nat_lt (label.sec + seconds) (2 ^ 63) then record { sec = label.sec + seconds; nano = label.nano } else greatest
