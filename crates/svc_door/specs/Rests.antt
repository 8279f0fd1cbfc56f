-- When the door looks at something again. Times are milliseconds of a clock that never goes back; `None` is never.
use Rattle.std.specs.Prelude.{ℕ, ◌+◌, ◌-◌, ◌*◌, ◌/◌, ◌^◌, min, nat_le, Bool, true, false, if◌then◌else◌}
use Rattle.std.specs.Prelude.{Option, Some, None, Result, Ok, Err}
use Rattle.std.specs.Option.{option_map}
use Rattle.std.specs.Duration.{as_nanos}
use Rattle.std.specs.declared.io.Error.{Error}
use Rattle.std.specs.declared.time.Duration.{Duration}
use Rattle.std.specs.declared.io.ErrorKind.{ErrorKind}
use Rattle.std.specs.declared.io.ErrorKind.TheVariants.{Interrupted, WouldBlock, ConnectionAborted}
use Rattle.svc_door.specs.declared.rests.TheConstants.{RETRY, SHORTAGE, SILENCE}
use Rattle.svc_door.specs.declared.connection.Turn.{Turn}
use Rattle.svc_door.specs.declared.connection.Turn.TheVariants.{Waits, Full, Ended}

-- the earlier of two times
abbrev pub sooner_of : Option ℕ → Option ℕ → Option ℕ
sooner_of None other = other
sooner_of (Some one) None = Some one
sooner_of (Some one) (Some other) = Some (min one other)

-- this long after a time, up to the maximum time
abbrev pub after : (time wait : ℕ) → ℕ
after time wait = min (time + wait) (2 ^ 64 - 1)

-- When the door looks again at a listener that gave no connection. If there is none, an event will announce the next
-- one. If the call was interrupted, or the connection was aborted, the call is repeated at once. After any other fault,
-- such as a lack of descriptors or memory, it is repeated after 100 ms.
abbrev pub refused_until : ErrorKind → (now : ℕ) → Option ℕ
refused_until WouldBlock now = None
refused_until Interrupted now = Some now
refused_until ConnectionAborted now = Some now
refused_until _ now = Some (after now SHORTAGE)

-- when a connection last gave bytes; this is now, if it gave bytes or some of its bytes still wait for the sender
abbrev pub spoke_at : Turn → (gave : Bool) → (spoke now : ℕ) → ℕ
spoke_at Full gave spoke now = now
spoke_at Waits gave spoke now = if gave then now else spoke
spoke_at Ended gave spoke now = if gave then now else spoke

-- the end of its silence, or 100 ms from now if that is earlier and no event announces its bytes
abbrev pub awaited_until : (watched : Bool) → (spoke now : ℕ) → ℕ
awaited_until true spoke now = after spoke SILENCE
awaited_until false spoke now = min (after spoke SILENCE) (after now SHORTAGE)

-- When the door looks at a connection again. It never does if the connection is over, or was silent for 5 s.
abbrev pub looked_at : Turn → (watched : Bool) → (spoke now : ℕ) → Option ℕ
looked_at Full watched spoke now = Some (after now RETRY)
looked_at Ended watched spoke now = None
looked_at Waits watched spoke now =
    if nat_le (after spoke SILENCE) now then None else Some (awaited_until watched spoke now)

-- how many nanoseconds a poll waits at most, until something is due
abbrev pub polled_for : (due : Option ℕ) → (now : ℕ) → Option ℕ
polled_for due now = option_map (λ at. (at - now) * 1000000) due

-- the milliseconds of a reading of the clock, up to the maximum; zero after a fault
abbrev pub millis_of : Result Duration Error → ℕ
millis_of (Ok time) = min (as_nanos time / 1000000) (2 ^ 64 - 1)
millis_of (Err fault) = 0
