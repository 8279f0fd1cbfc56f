-- The present tick, and a time that does not go back with the clock.
use Rattle.std.specs.Prelude.{◌/◌, ℕ, if◌then◌else◌, Option, Some, None}
use Rattle.std.specs.declared.time.Duration.{Duration}
use Rattle.tai_status.specs.Label.{Tai64n, is_earlier}
use Rattle.cmd_base.specs.Times.{millis_between}
use Rattle.svc_record.specs.Ticks.{tick_at}
use Rattle.svc_world.specs.Backoff.{seconds_after}
use Rattle.svc_system.specs.declared.times.ClockReading.{ClockReading}

-- the present tick, or the first one if the time is not known
abbrev pub present_tick : (now : Option Duration) → ℕ
present_tick None = 1
present_tick (Some now) = tick_at now

abbrev pub later : Tai64n → Tai64n → Tai64n
later a b = if is_earlier a b then b else a

-- This label, or that of an earlier reading and the whole seconds since then by the running clock, if that is later.
abbrev pub steady : (label : Tai64n) → (earlier : Option ClockReading) → (now : Option Duration) → Tai64n
steady label (Some earlier) (Some now) =
    later label (seconds_after (millis_between earlier.time now / 1000) earlier.label)
steady label earlier now = label
