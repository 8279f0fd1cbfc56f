use Rattle.std.proofs.Common.{◌≡◌, take}
use Rattle.cmd_why.specs.Entries.{last_of}
use Rattle.cmd_why.proofs.entries.last_of.Given as goal

-- the last of those so far
abbrev pub invariant-loop-event : goal.invariant-loop-event
invariant-loop-event l = l.last ≡ last_of l.kind (take l.event-index l.entries)
