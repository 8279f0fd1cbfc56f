-- How long the report of a death waits for control bytes.
use Rattle.std.specs.Prelude.{ℕ, ◌==◌, Bool, false, ◌&&◌, nat_lt, if◌then◌else◌, Option, Some, None}
use Rattle.std.specs.declared.time.Duration.{Duration}
use Rattle.cmd_base.specs.Times.{millis_between}
use Rattle.svc_system.specs.declared.linger.Linger.{Linger}

-- A death waits while letters come within twenty milliseconds of one another, and never longer than a second.
abbrev pub waits : (since_letter since_found : ℕ) → Bool
waits since_letter since_found = nat_lt since_letter 20 && nat_lt since_found 1000

-- the earlier reading, if there is one, or the present one
abbrev pub or_now : Option Duration → (now : Duration) → Duration
or_now None now = now
or_now (Some earlier) now = earlier

-- What is known about a child after a look that found a death, when this many letters had come. The first such look
-- sets the time at which it was found.
abbrev pub seen : (letters : ℕ) → (now : Duration) → Linger → Linger
seen letters now linger = record {
  letters = letters;
  changed = if linger.letters == letters then linger.changed else Some now;
  found = Some (or_now linger.found now);
}

abbrev pub waits_since : (changed found : Option Duration) → (now : Duration) → Bool
waits_since (Some changed) (Some found) now = waits (millis_between changed now) (millis_between found now)
waits_since changed found now = false

-- Whether the death waits now. It does not if no letter came since the child began.
abbrev pub lingers : (now : Duration) → Linger → Bool
lingers now linger = waits_since linger.changed linger.found now
