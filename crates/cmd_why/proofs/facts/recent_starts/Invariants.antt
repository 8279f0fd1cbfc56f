use Rattle.std.proofs.Common.{◌≡◌, ◌≤◌, take}
use Rattle.cmd_why.specs.Facts.{recent_starts}
use Rattle.cmd_why.proofs.facts.recent_starts.Given as goal

-- the starts so far
abbrev pub invariant-loop-event : goal.invariant-loop-event
invariant-loop-event l = (l.count ≡ recent_starts l.now (take l.event-index l.entries)) × (l.count ≤ l.event-index)
