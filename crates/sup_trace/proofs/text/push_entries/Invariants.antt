use Rattle.std.proofs.Common.{◌≡◌, ◌++◌, ◌∷◌, [], take}
use Rattle.std.specs.List.{AllByRecursion, flat_map}
use Rattle.sup_core.specs.Reading.{IsInRange}
use Rattle.sup_core.specs.Text.{event_text}
use Rattle.sup_trace.proofs.text.push_entries.Given as goal

-- the lines of the entries so far are written, and their numbers are in range
abbrev pub invariant-loop-event : goal.invariant-loop-event
invariant-loop-event g l =
    (l.out.items ≡ l.fn.out.items ++ flat_map (λ event. event_text event ++ 10 ∷ []) (take l.event-index l.entries))
    × AllByRecursion IsInRange (take l.event-index l.entries)
