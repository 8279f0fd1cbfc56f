-- How long a rest between two rounds is.
use Rattle.std.specs.Prelude.{◌≡◌, ℕ, ◌-◌, ◌*◌, ◌^◌, ◌<◌, nat_lt, if◌then◌else◌, Option, Some, None, MatchOption}
use Rattle.std.specs.declared.time.Duration.{Duration}
use Rattle.std.specs.Duration.{as_nanos}
use Rattle.svscan_rounds.specs.declared.resting.TheConstants.{REST_SECONDS}

-- a rest of five seconds, in nanoseconds
abbrev pub rest_nanos : ℕ
rest_nanos = REST_SECONDS * 10 ^ 9

-- The nanoseconds that are left of a rest, by the running clock when it began and now. None are left if the clock went
-- back, or could not be read.
abbrev pub nanos_left : (begin now : Option Duration) → ℕ
nanos_left None now = 0
nanos_left (Some begin) None = 0
nanos_left (Some begin) (Some now) =
    if nat_lt (as_nanos now) (as_nanos begin) then 0 else rest_nanos - (as_nanos now - as_nanos begin)

-- what is left of a rest: this many nanoseconds, or nothing
abbrev pub IsLeft : (nanos : ℕ) → Option Duration → Type 0
IsLeft nanos left = MatchOption left (nanos ≡ 0) (λ rest. (0 < as_nanos rest) × (as_nanos rest ≡ nanos))
