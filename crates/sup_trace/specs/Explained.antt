-- What the entries of a trace did: each is taken by the machine before it.
use Rattle.std.specs.Prelude.{ℕ, ◌+◌, List, ◌++◌, map, take, codes, decimal}
use Rattle.std.specs.List.{enumerate_from}
use Rattle.sup_core.specs.declared.event.Event.{Event}
use Rattle.sup_core.specs.History.{History, Opened, phase_of}
use Rattle.sup_core.specs.Rules.{next, reply_to}
use Rattle.sup_core.specs.Runs.{followed_by}
use Rattle.sup_core.specs.Text.{event_text, answer_text}
use Rattle.sup_trace.specs.Content.{Content}

-- the history before the entry at a place, counted from 0: the base and the entries before it
abbrev pub before : Content → ℕ → History
before content place = followed_by (Opened content.base) (take place content.entries)

-- the reply to an event, and the phase after it
abbrev pub answer_at : History → Event → List ℕ
answer_at past event = answer_text (reply_to past event) (phase_of (next past event))

-- the line of an entry: its number, the event, and the reply
abbrev pub numbered_line : ℕ → History → Event → List ℕ
numbered_line number past event =
    decimal number ++ codes " " ++ event_text event ++ codes ": " ++ answer_at past event

-- the line of the entry at a place; entries are numbered from 1
abbrev pub explained_line : Content → ℕ → Event → List ℕ
explained_line content place event = numbered_line (place + 1) (before content place) event

-- a line for each entry
abbrev pub explained : Content → List (List ℕ)
explained content = map (λ placed. explained_line content placed.0 placed.1) (enumerate_from 0 content.entries)
