use Rattle.std.proofs.Common.{◌≡◌, ◌++◌, drop}
use Rattle.cmd_why.specs.Timeline.{stretches}
use Rattle.cmd_why.proofs.timeline.stretches.Given as goal

-- the stretches so far, and those to come
abbrev pub invariant-loop-event : goal.invariant-loop-event
invariant-loop-event g l =
    stretches l.now l.leads l.fn.machine l.fn.last l.entries
    ≡ l.drawn.items ++ stretches l.now l.leads l.machine l.last (drop l.event-index l.entries)
