use Rattle.std.proofs.Common.{◌≡◌, ◌+◌, ◌≤◌, drop, false}
use Rattle.cmd_why.specs.Facts.{unasked_starts}
use Rattle.cmd_why.proofs.facts.unasked_starts.Given as goal

-- the starts so far, and those among the other entries
abbrev pub invariant-loop-event : goal.invariant-loop-event
invariant-loop-event l =
    (l.count + unasked_starts l.now l.asked (drop l.event-index l.entries) ≡ unasked_starts l.now false l.entries)
    × (l.count ≤ l.event-index)
