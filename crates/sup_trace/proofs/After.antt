-- Traces of a machine after events that are all taken: `trace_after`.
use Rattle.std.proofs.Common.{◌≡◌, ℕ, ◌-◌, ◌<◌, ◌≤◌, true, false, List, [], ◌∷◌, ◌++◌, refl, sym, ◌∙◌, arith}
use Rattle.std.proofs.Common.{if◌then◌else◌}
use Rattle.std.specs.List.{AllByRecursion}
use Rattle.sup_core.specs.declared.event.Event.{Event}
use Rattle.sup_core.specs.State.{State}
use Rattle.sup_core.specs.History.{Opened, state_of}
use Rattle.sup_core.specs.Rules.{IsEvent, takes}
use Rattle.sup_core.specs.Runs.{followed_by, taken_of}
use Rattle.sup_trace.specs.Trace.{Kept, history_of, replay, noted, noted_if_taken, noted_along, new_trace}
use Rattle.sup_trace.specs.Trace.{trace_after}
use Rattle.sup_trace.proofs.Laws.{IsTrace-new, noted-noted, noted_along-taken, replay-noted}
use Rattle.sup_trace.proofs.Laws.{takes-noted}

pub trace_after-none : (machine : State) (capacity : ℕ) → trace_after machine capacity [] ≡ new_trace machine capacity
trace_after-none machine capacity =
    let none : 0 - capacity ≡ 0 = omega arith in
    rw none refl

-- a trace replays to the machine after all events
pub replay-trace_after : (machine : State) (capacity : ℕ) (events : List Event)
    → replay (trace_after machine capacity events) ≡ state_of (followed_by (Opened machine) events)
replay-trace_after machine capacity events = replay-noted (new_trace machine capacity) events

pub capacity-noted_if_taken : (kept : Kept) (event : Event) → (noted_if_taken kept event).capacity ≡ kept.capacity
capacity-noted_if_taken kept event =
    elim (takes (history_of kept) event) as (λ b. (if b then noted kept (event ∷ []) else kept).capacity
    ≡ kept.capacity) [
      | true ↦ refl
      | false ↦ refl
    ]

-- more events
pub trace_after-append : (machine : State) (capacity : ℕ) (xs ys : List Event)
    → trace_after machine capacity (xs ++ ys) ≡ noted (trace_after machine capacity xs) ys
trace_after-append machine capacity xs ys = sym (noted-noted (new_trace machine capacity) xs ys)

-- What is taken, and the reply to it, are the same after a trace as after its whole history.
pub takes-trace_after : (machine : State) (capacity : ℕ) (events : List Event) (event : Event)
    → takes (history_of (trace_after machine capacity events)) event ≡ takes (followed_by (Opened machine) events) event
takes-trace_after machine capacity events event =
    takes-noted (new_trace machine capacity) events event

-- one more event, which is taken
pub trace_after-more : (machine : State) (capacity : ℕ) (events : List Event) (event : Event)
    → takes (followed_by (Opened machine) events) event ≡ true
    → trace_after machine capacity (events ++ event ∷ []) ≡ noted_if_taken (trace_after machine capacity events) event
trace_after-more machine capacity events event taken =
    let here = takes-trace_after machine capacity events event ∙ taken in
    trace_after-append machine capacity events (event ∷ []) ∙ rw here refl

-- the same for any events
pub noted_along-new : (machine : State) (capacity : ℕ) (events : List Event) → 0 < capacity → capacity ≤ 65536
    → AllByRecursion IsEvent events
    → noted_along (new_trace machine capacity) events ≡ trace_after machine capacity (taken_of (Opened machine) events)
noted_along-new machine capacity events room limit conditions =
    noted_along-taken (new_trace machine capacity) events (IsTrace-new machine capacity room limit) conditions
