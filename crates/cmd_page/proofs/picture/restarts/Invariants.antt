use Rattle.std.proofs.Common.{◌≡◌, ◌+◌, ◌≤◌, drop}
use Rattle.cmd_page.specs.Picture.{restarts}
use Rattle.cmd_page.proofs.picture.restarts.Given as goal

-- the restarts so far, and those among the other entries
abbrev pub invariant-loop-event : goal.invariant-loop-event
invariant-loop-event l =
    (l.count + restarts l.now l.ran (drop l.event-index l.entries) ≡ restarts l.now l.fn.ran l.entries)
    × (l.count ≤ l.event-index)
