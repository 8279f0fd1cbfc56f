use Rattle.std.proofs.Common.{◌≡◌, map, take}
use Rattle.std.specs.Prelude.{string_bytes}
use Rattle.svscan_rounds.specs.Needed.{needed}
use Rattle.svscan_rounds.proofs.needed.needed_names.Given as goal

-- those found are the needed ones of the names so far
abbrev pub invariant-loop-name : goal.invariant-loop-name
invariant-loop-name g l =
    map string_bytes l.found.items ≡ needed l.host.table.slots (map string_bytes (take l.name-index l.names))
