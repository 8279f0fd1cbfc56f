-- What is written is read: a text is read as what it says, and as nothing else.
use Rattle.std.proofs.Common.{◌≡◌, ℕ, ◌+◌, ◌<◌, ◌≤◌, ◌==◌, Bool, true, false, List, [], ◌∷◌, ◌++◌, map, flat_map}
use Rattle.std.proofs.Common.{append_assoc, length, Option, Some, None, Result, Ok, Err, refl, sym, ap, ◌∙◌, arith}
use Rattle.std.proofs.Common.{codes, decimal, subst}
use Rattle.std.specs.Prelude.{◌≢◌, IfOk, IfErr, MatchResult, IfSome}
use Rattle.std.specs.List.{AllByRecursion}
use Rattle.std.proofs.lemmas.Slice.Eq.{bytes_eq-Decides}
use Rattle.tai_status.specs.Label.{Tai64n, IsLabel}
use Rattle.tai_status.specs.LineReader.{IsPlain}
use Rattle.tai_status.specs.Record.{status_record}
use Rattle.sup_core.specs.declared.event.Event.{Event}
use Rattle.sup_core.specs.History.{History, Opened, Then}
use Rattle.sup_core.specs.Rules.{takes}
use Rattle.sup_core.specs.Runs.{AreTaken}
use Rattle.sup_core.specs.Text.{event_text, event_fields}
use Rattle.sup_core.specs.declared.event.Event.TheVariants.{Byte, Started, StartFailed, Death, Clock}
use Rattle.hex.specs.Hex.{encode_lower}
use Rattle.tai_status.proofs.Spelled.{lower-encode, IsBytes-status_record}
use Rattle.sup_core.specs.Reading.{fields, event_from, IsInRange}
use Rattle.sup_core.proofs.Standing.{is_state-decides}
use Rattle.sup_core.proofs.Laws.{followed_by-append}
use Rattle.sup_core.proofs.Lines.{is_solid, split-first, fields-join, decimal-solid, lower-solid, label_text-solid}
use Rattle.sup_core.proofs.Lines.{phase_name-solid, event_fields-event_text, event_read}
use Rattle.sup_trace.specs.declared.fault.TraceFault.{TraceFault}
use Rattle.sup_trace.specs.declared.fault.TraceFaultKind.{TraceFaultKind}
use Rattle.sup_trace.specs.declared.fault.TraceFaultKind.TheVariants as kind
use Rattle.sup_trace.specs.Content.{Content, content_of, content_history, IsContent, IsTraceText}
use Rattle.sup_trace.specs.Text.{header, stay_text, until_text, base_fields, base_text, end_text, trace_lines}
use Rattle.sup_trace.specs.Text.{trace_text}
use Rattle.sup_trace.specs.Reading.{Nothing, Header, Entries, Whole, base_result, with_entry, entry_result}
use Rattle.sup_trace.specs.Reading.{later_result, line_result, content_by_parts, parts_of, content_from}
use Rattle.std.proofs.lemmas.List.{length-append, append-nil}
use Rattle.sup_trace.proofs.Steps.{goes_on, over_none, room-test}
use Rattle.sup_trace.proofs.Parts.{folded_of_text-only, phase_of_text-only, status_of_text-only, exiting_of_text-only}
use Rattle.sup_trace.proofs.Parts.{until_of_text-only}
use Rattle.sup_trace.proofs.Plain.{plain-trace_lines}
use Rattle.sup_trace.proofs.Heard.{content_from-found}

-- lines without newlines are the parts of their text
split_lines : (lines : List (List ℕ)) → AllByRecursion IsPlain lines
    → parts_of (flat_map (λ line. line ++ 10 ∷ []) lines) ≡ lines ++ [] ∷ []
split_lines [] h = refl
split_lines (line ∷ lines) h =
    ap parts_of (append_assoc line (10 ∷ []) (flat_map (λ line. line ++ 10 ∷ []) lines))
    ∙ split-first 10 line (flat_map (λ line. line ++ 10 ∷ []) lines) h.0
    ∙ ap (λ (rest : List (List ℕ)). line ∷ rest) (split_lines lines h.1)

-- The header's line

header_said : line_result Nothing header ≡ Ok Header
header_said = let same = (bytes_eq-Decides header header).1 refl in rw same refl

-- The base's line

stay_text-solid : (exiting : Bool) → is_solid (stay_text exiting) ≡ true
stay_text-solid true = refl
stay_text-solid false = refl

until_text-solid : (until : Option Tai64n) → IfSome until IsLabel → is_solid (until_text until) ≡ true
until_text-solid None h = refl
until_text-solid (Some label) h = label_text-solid label h

base_fields-solid : (content : Content) → IsContent content
    → AllByRecursion (λ field. is_solid field ≡ true) (base_fields content.folded content.base)
base_fields-solid content h =
    let digits = encode_lower (status_record content.base.status) in
    let lower = lower-encode (status_record content.base.status) (IsBytes-status_record content.base.status) in (
      refl,
      (
        decimal-solid content.folded,
        (
          phase_name-solid content.base.phase,
          (
            lower-solid digits lower,
            (stay_text-solid content.base.exiting, (until_text-solid content.base.until h.until, tt)),
          ),
        ),
      ),
    )

base_read : (content : Content) → IsContent content → base_result (base_fields content.folded content.base)
    ≡ Ok (Entries (content_of content.base content.folded []))
base_read content h =
    let status = content.base.status in
    let folded = folded_of_text-only (decimal content.folded) content.folded (record { limit = h.count; is = refl }) in
    let phase = phase_of_text-only content.base.phase in
    let read = status_of_text-only (encode_lower (status_record status)) status
    (record { range = h.status; is = refl }) in
    let exiting = exiting_of_text-only content.base.exiting in
    let until = until_of_text-only content.base.until h.until in
    let stands = (is_state-decides content.base).0 h.state in
    rw (folded, phase, read, exiting, until) (rw stands refl)

base_line : (content : Content) → IsContent content → line_result Header (base_text content.folded content.base)
    ≡ Ok (Entries (content_of content.base content.folded []))
base_line content h =
    let same : fields (base_text content.folded content.base) ≡ base_fields content.folded content.base =
    fields-join _ _ (base_fields-solid content h) in
    ap base_result same ∙ base_read content h

-- The lines of entries

event_later : (content : Content) (event : Event) → later_result content (event_fields event)
    ≡ entry_result content (event_from (event_fields event))
event_later content (Byte byte) = refl
event_later content (Started pid label) = refl
event_later content (StartFailed label) = refl
event_later content (Death label) = refl
event_later content (Clock label) = refl

entry_line : (content : Content) (event : Event) → IsInRange event → length content.entries < 65536
    → takes (content_history content) event ≡ true
    → line_result (Entries content) (event_text event) ≡ Ok (Entries (with_entry content event))
entry_line content event range room taken =
    ap (later_result content) (event_fields-event_text event range) ∙ event_later content event
    ∙ ap (entry_result content) (event_read event range)
    ∙ rw (room-test (length content.entries) 65536 room, taken) refl

-- The end line

end_line : (content : Content) → line_result (Entries content) (end_text (length content.entries)) ≡ Ok (Whole content)
end_line content =
    let same = (bytes_eq-Decides (decimal (length content.entries)) (decimal (length content.entries))).1 refl in
    ap (later_result content) (fields-join (codes "end") (decimal (length content.entries) ∷ []) (
      refl,
      (decimal-solid (length content.entries), tt),
    ))
    ∙ rw same refl

-- All lines after the base's

end_parts : (number : ℕ) (content : Content)
    → content_by_parts number (Entries content) (end_text (length content.entries) ∷ [] ∷ []) ≡ Ok content
end_parts number content =
    goes_on number (Entries content) (Whole content) (end_text (length content.entries)) ([] ∷ []) (λ e. cc e)
    (end_line content)

history_after : (content : Content) (event : Event)
    → content_history (with_entry content event) ≡ Then (content_history content) event
history_after content event = followed_by-append (Opened content.base) content.entries (event ∷ [])

longer : (content : Content) (event : Event) → length (with_entry content event).entries ≡ length content.entries + 1
longer content event = length-append content.entries (event ∷ [])

some_parts : (lines : List (List ℕ)) (line : List ℕ) → lines ++ line ∷ [] ∷ [] ≡ [] → ⊥
some_parts [] line h = cc h
some_parts (first ∷ lines) line h = cc h

entries_read : (number total : ℕ) (content : Content) (events : List Event) → AllByRecursion IsInRange events
    → AreTaken (content_history content) events
    → total ≡ length content.entries + length events → total ≤ 65536
    → content_by_parts number (Entries content) (map event_text events ++ end_text total ∷ [] ∷ [])
    ≡ Ok (content_of content.base content.folded (content.entries ++ events))
entries_read number total content [] ranges taken is limit =
    let same : total ≡ length content.entries = omega (arith, is) in
    ap (λ (n : ℕ). content_by_parts number (Entries content) (end_text n ∷ [] ∷ [])) same
    ∙ end_parts number content
    ∙ ap (λ (es : List Event). Ok (content_of content.base content.folded es)) (sym (append-nil content.entries))
entries_read number total content (event ∷ events) ranges taken is limit =
    let room : length content.entries < 65536 = omega (arith, is, limit) in
    let more = longer content event in
    goes_on number (Entries content) (Entries (with_entry content event)) (event_text event)
    (map event_text events ++ end_text total ∷ [] ∷ [])
    (some_parts (map event_text events) (end_text total)) (entry_line content event ranges.0 room taken.1)
    ∙ entries_read (number + 1) total (with_entry content event) events ranges.1
    (subst (λ (past : History). AreTaken past events) (sym (history_after content event)) taken.2)
    (omega (arith, is, more)) limit
    ∙ ap (λ (es : List Event). Ok (content_of content.base content.folded es))
    (append_assoc content.entries (event ∷ []) events)

lines_and_end : (content : Content) → trace_lines content ++ [] ∷ []
    ≡ header ∷ base_text content.folded content.base
    ∷ (map event_text content.entries ++ end_text (length content.entries) ∷ [] ∷ [])
lines_and_end content =
    ap (λ (ls : List (List ℕ)). header ∷ base_text content.folded content.base ∷ ls)
    (append_assoc (map event_text content.entries) (end_text (length content.entries) ∷ []) ([] ∷ []))

abbrev refusal : TraceFault → Result Content TraceFault
refusal fault = Err fault

abbrev pub answer : Content → Result Content TraceFault
answer content = Ok content

-- All of the text was read, and nothing comes after the end line.
pub reported_whole : (text rest : List ℕ) (number : ℕ) (content : Content)
    → content_from text ≡ content_by_parts number (Whole content) (parts_of rest)
    → true ≡ (length rest == 0) → content_from text ≡ Ok content
reported_whole text rest number content is none = is ∙ over_none number content rest (grind (arith, none))

-- The text of a trace is read as what it says.
pub content_from-only : (content : Content) → IsContent content → content_from (trace_text content) ≡ Ok content
content_from-only content h =
    let base = content_of content.base content.folded [] in
    let rest = map event_text content.entries ++ end_text (length content.entries) ∷ [] ∷ [] in
    ap (content_by_parts 1 Nothing) (split_lines (trace_lines content) (plain-trace_lines content)
    ∙ lines_and_end content)
    ∙ goes_on 1 Nothing Header header (base_text content.folded content.base ∷ rest) (λ e. cc e) header_said
    ∙ goes_on 2 Header (Entries base) (base_text content.folded content.base) rest
    (some_parts (map event_text content.entries) _) (base_line content h)
    ∙ entries_read 3 (length content.entries) base content.entries h.ranges h.taken (omega arith) h.limit

-- The content that is read is valid, apart from what types guarantee.
pub IsTraceText-content : (text : List ℕ) (content : Content) → content_from text ≡ Ok content → IsTraceText content
IsTraceText-content text content is =
    let found = content_from-found text content is in
    let so = found.0 in
    record { count = so.count; limit = so.limit; taken = so.taken }

pub found-ok : {E : Type 0} (text : List ℕ) (r : Result Content E) → IfOk r (λ content. content_from text ≡ Ok content)
    → IfOk r (λ content. IsContent content × (text ≡ trace_text content))
found-ok text (Ok content) h = content_from-found text content h
found-ok text (Err e) h = tt

memory_spelt : (why : TraceFaultKind) → ((why ≢ kind.OutOfMemory) → ⊥) → why ≡ kind.OutOfMemory
memory_spelt kind.OutOfMemory h = refl
memory_spelt kind.Line h = absurd (h (λ e. cc e))
memory_spelt kind.Label h = absurd (h (λ e. cc e))
memory_spelt kind.Number h = absurd (h (λ e. cc e))
memory_spelt kind.UnknownEvent h = absurd (h (λ e. cc e))
memory_spelt kind.NotTaken h = absurd (h (λ e. cc e))

-- A text of a valid trace is refused only if memory runs out.
pub only-ok : (text : List ℕ) (content : Content) (r : Result Content TraceFault) → IsContent content
    → text ≡ trace_text content
    → IfOk r (λ read. content_from text ≡ Ok read)
    → IfErr r (λ fault. (fault.kind ≢ kind.OutOfMemory) → content_from text ≡ Err fault)
    → MatchResult r (λ read. read ≡ content) (λ fault. fault.kind ≡ kind.OutOfMemory)
only-ok text content (Ok read) so is ok err = let e : answer read ≡ Ok content = sym ok ∙ ap content_from is
    ∙ content_from-only content so in cc e
only-ok text content (Err fault) so is ok err = memory_spelt fault.kind λ other.
    let e : refusal fault ≡ Ok content = sym (err other) ∙ ap content_from is ∙ content_from-only content so in cc e
