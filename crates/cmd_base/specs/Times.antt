-- Times between readings of the running clock.
use Rattle.std.specs.Prelude.{ℕ, ◌-◌, ◌/◌, ◌^◌, min}
use Rattle.std.specs.declared.time.Duration.{Duration}
use Rattle.std.specs.Duration.{as_nanos}

-- the milliseconds from one reading of the running clock to another, at most 2^64 - 1
abbrev pub millis_between : (begin now : Duration) → ℕ
millis_between begin now = min ((as_nanos now - as_nanos begin) / 10 ^ 6) (2 ^ 64 - 1)
