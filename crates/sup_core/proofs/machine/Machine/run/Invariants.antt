use Rattle.std.proofs.Common.{◌≡◌, take}
use Rattle.sup_core.specs.History.{History, state_of}
use Rattle.sup_core.specs.Runs.{after}
use Rattle.sup_core.proofs.machine.Machine.run.Given as goal

-- the machine after the events so far
abbrev pub invariant-loop-event : goal.invariant-loop-event
invariant-loop-event l =
    (past : History) → state_of past ≡ l.fn.self → l.self ≡ state_of (after past (take l.event-index l.events))
