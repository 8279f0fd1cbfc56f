-- How long a thread rests.
use Rattle.std.specs.Prelude.{ℕ, ◌-◌, ◌^◌, min, Option, Some, None}
use Rattle.tai_status.specs.Label.{Tai64n, nanoseconds}

-- the nanoseconds from one label to a later one, at most a second
abbrev pub rest_before : Tai64n → Tai64n → ℕ
rest_before now until = min (nanoseconds until - nanoseconds now) (10 ^ 9)

-- the shorter of two rests; None is without limit
abbrev pub shorter : (one other : Option ℕ) → Option ℕ
shorter None None = None
shorter None (Some rest) = Some rest
shorter (Some rest) None = Some rest
shorter (Some one) (Some other) = Some (min one other)
