use Rattle.std.proofs.Common.{◌≡◌}
use Rattle.cmd_wait.specs.Ends.{order_of}
use Rattle.cmd_wait.specs.Finding.{awaited}
use Rattle.cmd_wait.specs.Steps.{sight}
use Rattle.cmd_wait.specs.Watching.{watched}
use Rattle.cmd_wait.proofs.Waiting.{IsUnderWay}
use Rattle.cmd_wait.proofs.wait.wait_for.Given as goal

-- the rounds so far are not the last, and nothing is reported
abbrev pub invariant-loop : goal.invariant-loop
invariant-loop g l =
    IsUnderWay (order_of l.options) (awaited l.fn.entries.items) l.begin
    (sight (g.S.Services.calls l.fn.services) (g.P.Pace.steps l.fn.pace)) (awaited l.left.items)
    (watched l.watch (sight (g.S.Services.calls l.services) (g.P.Pace.steps l.pace)))
    × (l.faults ≡ l.fn.faults)
