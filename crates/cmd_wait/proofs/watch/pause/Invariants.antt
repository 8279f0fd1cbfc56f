use Rattle.cmd_wait.specs.Finding.{entry_folders}
use Rattle.cmd_wait.specs.Steps.{sight}
use Rattle.cmd_wait.specs.Watching.{RestsOn, watched}
use Rattle.cmd_wait.proofs.watch.pause.Given as goal

-- this many rests, and no round was due after any of them
abbrev pub invariant-loop : goal.invariant-loop
invariant-loop g l =
    RestsOn l.limit l.begin (entry_folders l.left)
    (watched l.fn.watch (sight (g.S.Services.calls l.fn.services) (g.P.Pace.steps l.fn.pace))) l.counter
    (watched l.watch (sight (g.S.Services.calls l.services) (g.P.Pace.steps l.pace)))
