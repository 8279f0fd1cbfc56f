-- What a trace keeps: the last events of a machine, and the machine before them.
use Rattle.std.specs.Prelude.{◌≡◌, ℕ, ◌+◌, ◌-◌, ◌^◌, ◌<◌, ◌≤◌, Bool, true, ◌&&◌, nat_lt, List, [], ◌∷◌, ◌++◌, length}
use Rattle.std.specs.Prelude.{take, drop, min, if◌then◌else◌}
use Rattle.circular_buffer.specs.Buffer.{Buffer}
use Rattle.sup_core.specs.declared.event.Event.{Event}
use Rattle.sup_core.specs.declared.event.Event.TheVariants.{Started}
use Rattle.sup_core.specs.State.{State}
use Rattle.sup_core.specs.History.{History, Opened, Then, state_of}
use Rattle.sup_core.specs.Rules.{takes}
use Rattle.sup_core.specs.Runs.{followed_by, AreTaken}
use Rattle.sup_trace.specs.Content.{Content, content_of, content_history, replay_of}

-- The machine before the entries; the events taken since then, oldest first; how many events are kept at most; and how
-- many older events the base includes, as far as they are counted.
pub record Kept : Type 0 where
  pub base : State
  pub entries : List Event
  pub capacity : ℕ
  pub folded : ℕ

abbrev pub kept_of : State → Buffer Event → ℕ → Kept
kept_of base entries folded =
    record { base = base; entries = entries.items; capacity = entries.capacity; folded = folded }

-- what the text of a trace says
abbrev pub content_by : Kept → Content
content_by kept = content_of kept.base kept.folded kept.entries

-- the history of the entries after the base
abbrev pub history_of : Kept → History
history_of kept = content_history (content_by kept)

-- the state that the base and the entries replay to
abbrev pub replay : Kept → State
replay kept = replay_of (content_by kept)

-- The conditions on every trace.
pub record IsTrace (kept : Kept) : Type 0 where
  pub room : 0 < kept.capacity
  pub limit : kept.capacity ≤ 65536
  pub fits : length kept.entries ≤ kept.capacity
  pub taken : AreTaken (Opened kept.base) kept.entries
  pub count : kept.folded ≤ 2 ^ 63

-- The machine that a trace keeps next to its base and entries is the one that they replay to.
pub record IsKeptUp (kept : Kept) (machine : State) : Type 0 where
  pub trace : IsTrace kept
  pub replayed : machine ≡ replay kept

-- Traces after events

-- a trace with nothing taken
abbrev pub new_trace : State → ℕ → Kept
new_trace base capacity = record { base = base; entries = []; capacity = capacity; folded = 0 }

-- the machine after these events
abbrev pub folded_into : State → List Event → State
folded_into base events = state_of (followed_by (Opened base) events)

-- how many entries are cut off when these events are taken: those that no longer fit
abbrev pub cut : Kept → List Event → ℕ
cut kept events = length (kept.entries ++ events) - kept.capacity

-- The trace after these events are taken. Its entries are the last events, as many as fit. Its base is the machine
-- after the events before them, which are counted up to `2 ^ 63`.
abbrev pub noted : Kept → List Event → Kept
noted kept events =
    record {
      base = folded_into kept.base (take (cut kept events) (kept.entries ++ events));
      entries = drop (cut kept events) (kept.entries ++ events);
      capacity = kept.capacity;
      folded = min (kept.folded + cut kept events) (2 ^ 63);
    }

-- the trace after an event; an event that is not taken leaves no mark
abbrev pub noted_if_taken : Kept → Event → Kept
noted_if_taken kept event = if takes (history_of kept) event then noted kept (event ∷ []) else kept

-- the trace after these events, one after another
abbrev pub noted_along : Kept → List Event → Kept
noted_along kept [] = kept
noted_along kept (event ∷ events) = noted_along (noted_if_taken kept event) events

-- the trace of a machine after these events, if each of them is taken
abbrev pub trace_after : State → ℕ → List Event → Kept
trace_after machine capacity events = noted (new_trace machine capacity) events

-- Tests. No contract of this crate uses these two. They and proofs/Taken are for the crates above, whose types hold a
-- list of events that were taken, and which need a fact that computes.

-- whether a process that was started has a number of at least 1
abbrev pub is_event : Event → Bool
is_event (Started pid label) = nat_lt 0 pid
is_event event = true

-- whether each of these events is taken in its turn
abbrev pub are_taken : History → List Event → Bool
are_taken past [] = true
are_taken past (event ∷ events) = is_event event && takes past event && are_taken (Then past event) events
