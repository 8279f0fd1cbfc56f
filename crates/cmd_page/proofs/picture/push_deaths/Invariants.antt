use Rattle.std.proofs.Common.{◌≡◌, ◌++◌, drop}
use Rattle.cmd_page.specs.Picture.{deaths}
use Rattle.cmd_page.proofs.picture.push_deaths.Given as goal

-- the marks so far, and those of the other entries
abbrev pub invariant-loop-event : goal.invariant-loop-event
invariant-loop-event g l =
    l.fn.out.items ++ deaths l.now l.fn.asked l.entries
    ≡ l.out.items ++ deaths l.now l.asked (drop l.event-index l.entries)
