-- The local time of a label.
use Rattle.std.specs.Prelude.{ℕ, ◌+◌, ◌^◌, nat_lt, if◌then◌else◌, ℤ, pos, ◌+ℤ◌, ◌-ℤ◌, List, Option, None}
use Rattle.cmd_local.specs.Civil.{civil_text}

-- the second of Unix time of a label's second
abbrev pub unix_second : ℕ → ℤ
unix_second sec = pos sec -ℤ pos (2 ^ 62 + 10)

-- The local time of a label's second as text, if the clocks are ahead of UTC by this many seconds at each second of
-- Unix time. Seconds from 2^63 on are reserved.
unfoldable pub local_text : (ahead : ℤ → ℤ) (sec : ℕ) → Option (List ℕ)
local_text ahead sec = if nat_lt sec (2 ^ 63) then civil_text (unix_second sec +ℤ ahead (unix_second sec)) else None
