-- Reading the text of a trace: what it says, or its first faulty line and why that line is refused.
use Rattle.std.specs.Prelude.{◌≡◌, ◌≢◌, ℕ, ◌+◌, ◌^◌, ◌<◌, ◌==◌, ◌&&◌, nat_lt, nat_le, bytes_eq, Bool, true, false}
use Rattle.std.specs.Prelude.{not, if◌then◌else◌, List, [], ◌∷◌, ◌++◌, length, codes, decimal, Option, Some, None}
use Rattle.std.specs.Prelude.{option_map, Result, Ok, Err, MatchResult}
use Rattle.std.specs.List.{slice_split}
use Rattle.std.specs.Result.{result_ok}
use Rattle.std.specs.Str.Parse.{digits_value}
use Rattle.hex.specs.Hex.{decode_sized, encode_lower}
use Rattle.hex.specs.declared.error.FromHexError.{FromHexError}
use Rattle.tai_status.specs.Label.{Tai64n}
use Rattle.tai_status.specs.Record.{Status, status_record}
use Rattle.tai_status.specs.Decoding.{status_from}
use Rattle.sup_core.specs.declared.event.Event.{Event}
use Rattle.tai_status.specs.declared.phase.Phase.{Phase}
use Rattle.tai_status.specs.declared.phase.Phase.TheVariants as phase
use Rattle.sup_core.specs.declared.reading.EventFault.{EventFault}
use Rattle.sup_core.specs.declared.reading.EventFault.TheVariants as why
use Rattle.sup_core.specs.State.{State, is_state}
use Rattle.sup_core.specs.Rules.{takes}
use Rattle.sup_core.specs.Reading.{fields, label_of_text, event_from}
use Rattle.sup_trace.specs.declared.fault.TraceFault.{TraceFault}
use Rattle.sup_trace.specs.declared.fault.TraceFaultKind.{TraceFaultKind}
use Rattle.sup_trace.specs.declared.fault.TraceFaultKind.TheVariants as kind
use Rattle.sup_trace.specs.Content.{Content, IsContent, content_of, content_history}
use Rattle.sup_trace.specs.Text.{header, front_lines, lines_text}

-- What the fields of the base's line say

-- the count of folded events with this text
unfoldable pub folded_of_text : List ℕ → Option ℕ
folded_of_text text =
    if nat_le (digits_value 10 text) (2 ^ 63) && bytes_eq (decimal (digits_value 10 text)) text
    then Some (digits_value 10 text)
    else None

-- the phase with this name
abbrev pub phase_of_text : List ℕ → Option Phase
phase_of_text text =
    if bytes_eq text (codes "starting") then Some phase.Starting
    else if bytes_eq text (codes "settling") then Some phase.Settling
    else if bytes_eq text (codes "resting") then Some phase.Resting
    else if bytes_eq text (codes "up") then Some phase.Up
    else if bytes_eq text (codes "down") then Some phase.Down
    else if bytes_eq text (codes "gone") then Some phase.Gone
    else None

-- the status with this record
abbrev pub status_of_bytes : Result (List ℕ) FromHexError → Option Status
status_of_bytes (Ok bytes) = result_ok (status_from bytes)
status_of_bytes (Err e) = None

-- a status, if this is the text of its record
abbrev pub if_spelled : List ℕ → Option Status → Option Status
if_spelled text (Some status) = if bytes_eq (encode_lower (status_record status)) text then Some status else None
if_spelled text None = None

-- the status with these 36 lower-case digits as its record
unfoldable pub status_of_text : List ℕ → Option Status
status_of_text text = if_spelled text (status_of_bytes (decode_sized text 18))

-- whether supervise exits after the process
abbrev pub exiting_of_text : List ℕ → Option Bool
exiting_of_text text =
    if bytes_eq text (codes "exit") then Some true
    else if bytes_eq text (codes "stay") then Some false
    else None

-- until when the machine settles or rests
abbrev pub until_of_text : List ℕ → Option (Option Tai64n)
until_of_text text =
    if bytes_eq text (codes "-") then Some None
    else option_map (λ label. Some label) (label_of_text text)

-- The lines

-- what the lines so far said: nothing, the header, the base and some entries, or all
pub data Heard : Type 0 where
  Nothing : Heard
  Header : Heard
  Entries : Content → Heard
  Whole : Content → Heard

-- the base with this many folded events, and no entries yet
abbrev pub at_base : ℕ → State → Heard
at_base folded base = Entries (content_of base folded [])

-- the same with one more entry
abbrev pub with_entry : Content → Event → Content
with_entry content event = content_of content.base content.folded (content.entries ++ event ∷ [])

-- a phase, a status, and whether supervise exits after the process
abbrev pub standing : Option Phase → Option Status → Option Bool → Option (Phase × Status × Bool)
standing (Some phase) (Some status) (Some exiting) = Some (phase, status, exiting)
standing phase status exiting = None

-- the state with these parts, and the time when settling or resting ends
abbrev pub state_of_parts : Phase × Status × Bool → Option Tai64n → State
state_of_parts (phase, status, exiting) until =
    record { phase = phase; status = status; exiting = exiting; until = until }

abbrev pub base_at : ℕ → State → Result Heard TraceFaultKind
base_at folded state =
    if is_state state then Ok (at_base folded state) else Err kind.Line

-- The base from what its fields say, or the first fault. The faults are, in order: no number; no phase, record, `exit`
-- or `stay`; no label; no possible state of a machine.
abbrev pub base_from : Option ℕ → Option (Phase × Status × Bool) → Option (Option Tai64n) → Result Heard TraceFaultKind
base_from None standing until = Err kind.Number
base_from (Some folded) None until = Err kind.Line
base_from (Some folded) (Some standing) None = Err kind.Label
base_from (Some folded) (Some standing) (Some until) = base_at folded (state_of_parts standing until)

-- the base's line, by its fields
abbrev pub base_result : List (List ℕ) → Result Heard TraceFaultKind
base_result (word ∷ folded ∷ phase ∷ status ∷ stay ∷ until ∷ []) =
    if bytes_eq word (codes "base")
    then
    base_from (folded_of_text folded) (standing (phase_of_text phase) (status_of_text status) (exiting_of_text stay))
    (until_of_text until)
    else Err kind.Line
base_result other = Err kind.Line

abbrev pub kind_of : EventFault → TraceFaultKind
kind_of why.UnknownEvent = kind.UnknownEvent
kind_of why.Line = kind.Line
kind_of why.Number = kind.Number
kind_of why.Label = kind.Label

-- an event's line: its own faults come first, then more than 65,536 entries, then an event that is not taken
abbrev pub entry_result : Content → Result Event EventFault → Result Heard TraceFaultKind
entry_result content (Err fault) = Err (kind_of fault)
entry_result content (Ok event) =
    if not (nat_lt (length content.entries) 65536) then Err kind.Line
    else if takes (content_history content) event then Ok (Entries (with_entry content event))
    else Err kind.NotTaken

-- the end line, which has the number of entries
abbrev pub end_result : Content → List (List ℕ) → Result Heard TraceFaultKind
end_result content (count ∷ []) =
    if bytes_eq count (decimal (length content.entries)) then Ok (Whole content) else Err kind.Number
end_result content other = Err kind.Line

-- a line after the base's, by its fields: it is the end line if its first word is `end`
abbrev pub later_result : Content → List (List ℕ) → Result Heard TraceFaultKind
later_result content [] = Err kind.UnknownEvent
later_result content (word ∷ rest) =
    if bytes_eq word (codes "end") then end_result content rest else entry_result content (event_from (word ∷ rest))

-- what a line says after the lines so far
abbrev pub line_result : Heard → List ℕ → Result Heard TraceFaultKind
line_result Nothing line = if bytes_eq line header then Ok Header else Err kind.Line
line_result Header line = base_result (fields line)
line_result (Entries content) line = later_result content (fields line)
line_result (Whole content) line = Err kind.Line

-- all that the text says, or what it has said so far
abbrev pub heard_of : Bool → Content → Heard
heard_of true content = Whole content
heard_of false content = Entries content

-- a line that is refused
abbrev pub refusal : ℕ → TraceFaultKind → Result Content TraceFault
refusal number why = Err (record { line = number; kind = why })

-- what the bytes after the last newline mean: there must be none, and all must have been said
abbrev pub at_end : ℕ → Heard → List ℕ → Result Content TraceFault
at_end number (Whole content) [] = Ok content
at_end number heard rest = refusal number kind.Line

-- A text is read line by line, each line up to its newline. The first line that is refused is reported with its number.
abbrev pub content_by_parts : ℕ → Heard → List (List ℕ) → Result Content TraceFault
content_by_parts number heard [] = at_end number heard []
content_by_parts number heard (rest ∷ []) = at_end number heard rest
content_by_parts number heard (line ∷ part ∷ parts) = elim (line_result heard line) [
  | Ok more ↦ content_by_parts (number + 1) more (part ∷ parts)
  | Err why ↦ refusal number why
]

-- the parts of a text between its newlines
abbrev pub parts_of : List ℕ → List (List ℕ)
parts_of text = slice_split (λ byte. byte == 10) text

-- what a text says, or its first fault
abbrev pub content_from : List ℕ → Result Content TraceFault
content_from text = content_by_parts 1 Nothing (parts_of text)

-- When reading can run out of memory

-- A text has an entry on this line. The text begins with a header, a base's line and the lines of entries. Each entry
-- is taken in its turn, and the last of them is on this line. Thus the lines up to this one can be read, and its event
-- is taken.
pub record HasEntryAt (text : List ℕ) (line : ℕ) : Type 0 where
  pub content : Content
  pub so : IsContent content
  pub some : 0 < length content.entries
  pub number : line ≡ length (front_lines content)
  pub rest : List ℕ
  pub begins : text ≡ lines_text (front_lines content) ++ rest

-- No line up to this one is faulty.
abbrev pub IsBeforeFaults : (text : List ℕ) (line : ℕ) → Type 0
IsBeforeFaults text line = (first : TraceFault) → content_from text ≡ Err first → line < first.line

-- This was read, or memory ran out.
abbrev pub ReadsOrStarves : Result Content TraceFault → Content → Type 0
ReadsOrStarves result content = MatchResult result (λ read. read ≡ content) (λ fault. fault.kind ≡ kind.OutOfMemory)

-- Words for the steps of reading, used by private functions only.

-- One more entry is read.
pub record AddsEntry (content : Content) (r : Result Heard TraceFaultKind) : Type 0 where
  pub event : Event
  pub is : r ≡ Ok (Entries (with_entry content event))

-- A line is cut off a text, and read.
pub record ReadsLine (number later : ℕ) (text rest : List ℕ) (heard more : Heard) : Type 0 where
  pub line : List ℕ
  pub cut : parts_of text ≡ line ∷ parts_of rest
  pub next : later ≡ number + 1
  pub is : line_result heard line ≡ Ok more

-- what these lines say, one after another
abbrev pub heard_along : Heard → List (List ℕ) → Result Heard TraceFaultKind
heard_along heard [] = Ok heard
heard_along heard (line ∷ lines) = elim (line_result heard line) [
  | Ok more ↦ heard_along more lines
  | Err why ↦ Err why
]

-- Line number `at` is read as an entry. The first of these parts has the number `number`.
pub record ReadsEntry (at number : ℕ) (heard : Heard) (parts : List (List ℕ)) : Type 0 where
  pub lines : List (List ℕ)
  pub rest : List (List ℕ)
  pub cut : parts ≡ lines ++ rest
  pub ended : rest ≢ []
  pub content : Content
  pub some : 0 < length content.entries
  pub is : heard_along heard lines ≡ Ok (Entries content)
  pub place : at + 1 ≡ number + length lines

-- Reading from this place gives what reading from that place gives. A place is the number of a line, what the lines
-- before it said, and the text that begins with it.
abbrev pub SpellsAlike : (number : ℕ) (heard : Heard) (text : List ℕ) (later : ℕ) (more : Heard) (rest : List ℕ)
    → Type 0
SpellsAlike number heard text later more rest =
    content_by_parts number heard (parts_of text) ≡ content_by_parts later more (parts_of rest)

-- An entry that is read from that place is read from this one.
abbrev pub ReadsItsEntries :
    (number : ℕ) (heard : Heard) (text : List ℕ) (later : ℕ) (more : Heard) (rest : List ℕ) → Type 0
ReadsItsEntries number heard text later more rest =
    (at : ℕ) → ReadsEntry at later more (parts_of rest) → ReadsEntry at number heard (parts_of text)

-- Reports of faults

-- why a line is refused
abbrev pub kind_name : TraceFaultKind → List ℕ
kind_name kind.Line = codes "Line"
kind_name kind.Label = codes "Label"
kind_name kind.Number = codes "Number"
kind_name kind.UnknownEvent = codes "UnknownEvent"
kind_name kind.NotTaken = codes "NotTaken"
kind_name kind.OutOfMemory = codes "OutOfMemory"

-- the line that is refused, and why
abbrev pub refusal_text : TraceFault → List ℕ
refusal_text fault = codes "line " ++ decimal fault.line ++ codes ": " ++ kind_name fault.kind
