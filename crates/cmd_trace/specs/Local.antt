-- What `trace --local` prints about a trace: local times in place of labels, and words in place of the digits of
-- records.
use Rattle.std.specs.Prelude.{ℕ, ℤ, ◌+◌, ◌==◌, Bool, if◌then◌else◌, List, [], ◌∷◌, ◌++◌, map, flat_map, codes, decimal}
use Rattle.std.specs.Prelude.{◌≡◌, Option, Some, None, Result, OnOk}
use Rattle.std.specs.List.{enumerate_from}
use Rattle.tai_status.specs.Label.{Tai64n, label_text}
use Rattle.tai_status.specs.Phase.{phase_name}
use Rattle.tai_status.specs.declared.record.Want.{Want}
use Rattle.tai_status.specs.declared.record.Want.TheVariants as want
use Rattle.sup_core.specs.declared.asks.Ask.{Ask}
use Rattle.sup_core.specs.declared.asks.Ask.TheVariants.{Signal, Start, Write}
use Rattle.sup_core.specs.declared.asks.Reply.{Reply}
use Rattle.sup_core.specs.declared.asks.Reply.TheVariants.{Held, Took}
use Rattle.sup_core.specs.declared.event.Event.{Event}
use Rattle.sup_core.specs.declared.event.Event.TheVariants.{Byte, Started, StartFailed, Death, Clock}
use Rattle.sup_core.specs.State.{State}
use Rattle.sup_core.specs.History.{History, state_of}
use Rattle.sup_core.specs.Rules.{next, reply_to}
use Rattle.sup_core.specs.Text.{byte_text, signal_name}
use Rattle.sup_trace.specs.Content.{Content, replay_of}
use Rattle.sup_trace.specs.Explained.{before}
use Rattle.cmd_base.specs.Printed.{printed}
use Rattle.cmd_local.specs.Digits.{nine_digits}
use Rattle.cmd_local.specs.Local.{local_text}

-- In this file, `ahead` is the number of seconds by which clocks are ahead of UTC, at each second of Unix time.

-- Times

-- a second's local time and its nanoseconds, or the label if the second has no local time
abbrev pub time_or_label : Option (List ℕ) → Tai64n → List ℕ
time_or_label (Some second) label = second ++ 46 ∷ nine_digits label.nano
time_or_label None label = label_text label

-- The local time of a label, as `2026-11-25 01:33:02.123456789`. Outside of the years 1900 to 9999, the label itself.
unfoldable pub time_words : (ahead : ℤ → ℤ) → Tai64n → List ℕ
time_words ahead label = time_or_label (local_text ahead label.sec) label

-- Records

-- whether there is a process, and which one
unfoldable pub process_words : (pid : ℕ) → List ℕ
process_words pid = if pid == 0 then codes "down" else codes "up " ++ decimal pid

abbrev pub paused_words : (paused : Bool) → List ℕ
paused_words paused = if paused then codes ", paused" else []

abbrev pub want_words : Want → List ℕ
want_words want.Up = codes ", wanted up"
want_words want.Down = codes ", wanted down"
want_words want.Once = codes ", wanted once"

abbrev pub exiting_words : (exiting : Bool) → List ℕ
exiting_words exiting = if exiting then codes ", exiting" else []

-- What the record of a machine says, as `up 4711, paused, wanted down, exiting, since 2026-11-25 01:33:02.123456789`:
-- its process; whether that is paused; what is wanted; whether supervise is to end; and the last change of process.
unfoldable pub record_words : (ahead : ℤ → ℤ) → State → List ℕ
record_words ahead state =
    process_words state.status.pid ++ paused_words state.status.paused ++ want_words state.status.want
    ++ exiting_words state.exiting ++ codes ", since " ++ time_words ahead state.status.label

-- Events and answers

-- an event as in the text of a trace, except for its label
abbrev pub event_words : (ahead : ℤ → ℤ) → Event → List ℕ
event_words ahead (Byte byte) = codes "byte " ++ byte_text byte
event_words ahead (Started pid label) = codes "started " ++ decimal pid ++ codes " " ++ time_words ahead label
event_words ahead (StartFailed label) = codes "failed " ++ time_words ahead label
event_words ahead (Death label) = codes "death " ++ time_words ahead label
event_words ahead (Clock label) = codes "clock " ++ time_words ahead label

-- An ask of the event that leads to this machine. A record is that of this machine.
abbrev pub ask_words : (ahead : ℤ → ℤ) → (after : State) → Ask → List ℕ
ask_words ahead after (Signal sig pid) = signal_name sig ++ codes ":" ++ decimal pid
ask_words ahead after Start = codes "start"
ask_words ahead after (Write bytes) = codes "record (" ++ record_words ahead after ++ codes ")"

-- what was asked, each after a space
abbrev pub asks_words : (ahead : ℤ → ℤ) → (after : State) → List Ask → List ℕ
asks_words ahead after asks = flat_map (λ ask. 32 ∷ ask_words ahead after ask) asks

abbrev pub reply_words : (ahead : ℤ → ℤ) → (after : State) → Reply → List ℕ
reply_words ahead after Held = codes "held"
reply_words ahead after (Took asks) = codes "took" ++ asks_words ahead after asks

-- the answer to an event, and the phase after it
abbrev pub answer_words : (ahead : ℤ → ℤ) → (after : State) → Reply → List ℕ
answer_words ahead after reply = reply_words ahead after reply ++ codes " -> " ++ phase_name after.phase

-- The lines

-- the line of an entry with this number: its event, the answer to it, and the machine after it
unfoldable pub line_words : (ahead : ℤ → ℤ) → (number : ℕ) → Event → (after : State) → Reply → List ℕ
line_words ahead number event after reply =
    decimal number ++ codes " " ++ event_words ahead event ++ codes ": " ++ answer_words ahead after reply

-- the line of an entry with this number after that history
abbrev pub local_line : (ahead : ℤ → ℤ) → (number : ℕ) → History → Event → List ℕ
local_line ahead number past event =
    line_words ahead number event (state_of (next past event)) (reply_to past event)

-- The line of an entry with this number was added, whatever history led to this machine, unless there was an error.
abbrev pub AddsEntry : {A E : Type 0} → Result A E → (ahead : ℤ → ℤ) (number : ℕ) (machine : State) → Event
    → (old new : List ℕ) → Type 0
AddsEntry result ahead number machine event old new =
    (past : History) → state_of past ≡ machine
    → OnOk result (new ≡ old ++ local_line ahead number past event ++ 10 ∷ [])

-- one line for each entry, numbered from 1
abbrev pub local_lines : (ahead : ℤ → ℤ) → Content → List (List ℕ)
local_lines ahead content =
    map (λ placed. local_line ahead (placed.0 + 1) (before content placed.0) placed.1)
    (enumerate_from 0 content.entries)

-- the line about the machine after the entries: its phase, and what its record says
abbrev pub local_state : (ahead : ℤ → ℤ) → State → List ℕ
local_state ahead state =
    codes "state " ++ phase_name state.phase ++ codes " (" ++ record_words ahead state ++ codes ")" ++ 10 ∷ []

-- one line for each entry, and one about the machine after them
abbrev pub local_explanation : (ahead : ℤ → ℤ) → Content → List ℕ
local_explanation ahead content = printed (local_lines ahead content) ++ local_state ahead (replay_of content)
