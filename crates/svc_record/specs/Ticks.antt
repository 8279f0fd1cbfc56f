-- The ticks of the kernel's clock.
use Rattle.std.specs.Prelude.{ℕ, ◌-◌, ◌/◌, ◌^◌, max, min}
use Rattle.std.specs.declared.time.Duration.{Duration}
use Rattle.std.specs.Duration.{as_nanos}

-- the tick at this time of the running clock: a tick is a hundredth of a second, and the first one is 1
abbrev pub tick_at : (now : Duration) → ℕ
tick_at now = max (min (as_nanos now / 10 ^ 7) (2 ^ 64 - 1)) 1
