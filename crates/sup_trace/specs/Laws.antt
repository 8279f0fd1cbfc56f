-- How events change traces, whatever events come.
use Rattle.std.specs.Prelude.{◌≡◌, ℕ, ◌<◌, ◌≤◌, List}
use Rattle.std.specs.List.{AllByRecursion}
use Rattle.sup_core.specs.declared.event.Event.{Event}
use Rattle.sup_core.specs.State.{State}
use Rattle.sup_core.specs.History.{Opened, state_of}
use Rattle.sup_core.specs.Rules.{IsEvent}
use Rattle.sup_core.specs.Runs.{followed_by, taken_of}
use Rattle.sup_trace.specs.Trace.{Kept, IsTrace, history_of, new_trace, noted, noted_along, replay, trace_after}

-- After any events, a new trace keeps what it would keep after those of them that are taken.
abbrev pub NewTraceKeepsTheTaken : Type 0
NewTraceKeepsTheTaken =
    (machine : State) (capacity : ℕ) (events : List Event) → 0 < capacity → capacity ≤ 65536
    → AllByRecursion IsEvent events
    → noted_along (new_trace machine capacity) events ≡ trace_after machine capacity (taken_of (Opened machine) events)

-- Events one at a time lead to the same trace as those of them that are taken, all at once.
abbrev pub EachComesAsAll : Type 0
EachComesAsAll =
    (kept : Kept) (events : List Event) → IsTrace kept → AllByRecursion IsEvent events
    → noted_along kept events ≡ noted kept (taken_of (history_of kept) events)

-- A trace replays to the machine after the events that were taken.
abbrev pub TracesReplayTheTaken : Type 0
TracesReplayTheTaken =
    (machine : State) (capacity : ℕ) (events : List Event)
    → replay (trace_after machine capacity events) ≡ state_of (followed_by (Opened machine) events)
