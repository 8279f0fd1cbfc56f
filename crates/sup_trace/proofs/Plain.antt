-- The lines of traces, and the lines that explain them, have no newline.
use Rattle.std.proofs.Common.{ℕ, ◌+◌, length, Option, Some, None, Bool, true, false, List, [], ◌∷◌, ◌++◌, map, refl}
use Rattle.std.proofs.Common.{decimal, codes}
use Rattle.std.specs.List.{AllByRecursion, enumerate_from}
use Rattle.tai_status.specs.Label.{Tai64n}
use Rattle.tai_status.specs.LineReader.{IsPlain}
use Rattle.sup_core.specs.declared.event.Event.{Event}
use Rattle.tai_status.specs.Record.{status_record}
use Rattle.sup_core.specs.State.{State}
use Rattle.sup_core.specs.History.{phase_of}
use Rattle.sup_core.specs.Rules.{next, reply_to}
use Rattle.sup_core.specs.Text.{event_text}
use Rattle.sup_core.proofs.Plain.{plain-append, plain-join, plain-decimal, plain-encode_lower, plain-label_text}
use Rattle.sup_core.proofs.Plain.{plain-event_text, plain-phase_name, plain-answer_text}
use Rattle.sup_trace.specs.Content.{Content}
use Rattle.sup_trace.specs.Text.{header, stay_text, until_text, base_fields, end_text, trace_lines}
use Rattle.sup_trace.specs.Explained.{before, answer_at, explained, explained_line}

-- The lines that explain

plain-explained_line : (content : Content) (place : ℕ) (event : Event) → IsPlain (explained_line content place event)
plain-explained_line content place event =
    let number = plain-append (decimal (place + 1)) (codes " ") (plain-decimal (place + 1)) refl in
    let happened = plain-append (decimal (place + 1) ++ codes " ") (event_text event) number (plain-event_text event) in
    let front = plain-append (decimal (place + 1) ++ codes " " ++ event_text event) (codes ": ") happened refl in
    plain-append (decimal (place + 1) ++ codes " " ++ event_text event ++ codes ": ")
    (answer_at (before content place) event) front
    (plain-answer_text (reply_to (before content place) event) (phase_of (next (before content place) event)))

plain-lines : (content : Content) (place : ℕ) (events : List Event)
    → AllByRecursion IsPlain (map (λ placed. explained_line content placed.0 placed.1) (enumerate_from place events))
plain-lines content place [] = tt
plain-lines content place (event ∷ events) = (
  plain-explained_line content place event,
  plain-lines content (place + 1) events,
)

pub plain-explained : (content : Content) → AllByRecursion IsPlain (explained content)
plain-explained content = plain-lines content 0 content.entries

-- The lines of a trace's text

plain-header : IsPlain header
unfolding header
plain-header = refl

plain-stay_text : (exiting : Bool) → IsPlain (stay_text exiting)
plain-stay_text true = refl
plain-stay_text false = refl

plain-until_text : (until : Option Tai64n) → IsPlain (until_text until)
plain-until_text None = refl
plain-until_text (Some label) = plain-label_text label

plain-base_fields : (folded : ℕ) (base : State) → AllByRecursion IsPlain (base_fields folded base)
plain-base_fields folded base =
    let until = plain-until_text base.until in
    let digits = plain-encode_lower (status_record base.status) in
    (refl, (plain-decimal folded, (plain-phase_name base.phase, (digits, (plain-stay_text base.exiting, (until, tt))))))

plain-end_text : (count : ℕ) → IsPlain (end_text count)
plain-end_text count = plain-append (codes "end ") (decimal count) refl (plain-decimal count)

plain-entries : (events : List Event) (count : ℕ)
    → AllByRecursion IsPlain (map event_text events ++ end_text count ∷ [])
plain-entries [] count = (plain-end_text count, tt)
plain-entries (event ∷ events) count = (plain-event_text event, plain-entries events count)

pub plain-trace_lines : (content : Content) → AllByRecursion IsPlain (trace_lines content)
plain-trace_lines content =
    let base = base_fields content.folded content.base in (
      plain-header,
      (
        plain-join base (plain-base_fields content.folded content.base),
        plain-entries content.entries (length content.entries),
      ),
    )
