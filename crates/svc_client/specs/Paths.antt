-- The paths through which sockets are reached.
use Rattle.std.specs.Prelude.{ℕ, ◌<◌, List, length}

-- The address of a socket has 108 bytes, for a path and the zero at its end.
abbrev pub FitsAddress : (path : List ℕ) → Type 0
FitsAddress path = length path < 108
