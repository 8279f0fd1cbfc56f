use Rattle.std.proofs.Common.{◌≡◌, ◌++◌, take}
use Rattle.cmd_trace.specs.Local.{asks_words}
use Rattle.cmd_trace.proofs.local.push_asks.Given as goal

-- the asks so far are written
abbrev pub invariant-loop-ask : goal.invariant-loop-ask
invariant-loop-ask g l =
    l.out.items ≡ l.fn.out.items ++ asks_words (g.Z.Zone.ahead_at l.zone) l.after (take l.ask-index l.asks)
