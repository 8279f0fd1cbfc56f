-- Reading an event's line and a begin line: the event or beginning that the line spells, or why it spells none.
use Rattle.std.specs.Prelude.{ℕ, ◌<◌, ◌^◌, nat_lt, ◌==◌, ◌&&◌, ◌||◌, Bool, true, false, if◌then◌else◌, List, [], ◌∷◌}
use Rattle.std.specs.Prelude.{codes, decimal, bytes_eq, Option, Some, None, option_map, is_some, Result, Err, ok_or}
use Rattle.std.specs.List.{slice_split}
use Rattle.std.specs.Result.{result_ok}
use Rattle.std.specs.Str.Parse.{digits_value}
use Rattle.tai_status.specs.Label.{Tai64n, IsLabel}
use Rattle.tai_status.specs.Reading.{from_text}
use Rattle.sup_core.specs.declared.event.Event.{Event}
use Rattle.sup_core.specs.declared.event.Event.TheVariants.{Byte, Started, StartFailed, Death, Clock}
use Rattle.sup_core.specs.declared.reading.EventFault.{EventFault}
use Rattle.sup_core.specs.declared.reading.EventFault.TheVariants as fault
use Rattle.sup_core.specs.Text.{byte_text}

-- The numbers of an event are in range, so it has a line.
abbrev pub IsInRange : Event → Type 0
IsInRange (Byte byte) = byte < 2 ^ 8
IsInRange (Started pid label) = (0 < pid) × (pid < 2 ^ 32) × IsLabel label
IsInRange (StartFailed label) = IsLabel label
IsInRange (Death label) = IsLabel label
IsInRange (Clock label) = IsLabel label

-- What the fields say

-- the fields of a line, which are separated by one space
abbrev pub fields : List ℕ → List (List ℕ)
fields line = slice_split (λ byte. byte == 32) line

-- the byte that a field means, if it is the text of one: itself, or the value of its two digits
abbrev pub byte_meant : List ℕ → ℕ
byte_meant (byte ∷ []) = byte
byte_meant digits = digits_value 16 digits

-- the byte with this text
unfoldable pub byte_of_text : List ℕ → Option ℕ
byte_of_text text =
    if nat_lt (byte_meant text) (2 ^ 8) && bytes_eq (byte_text (byte_meant text)) text then Some (byte_meant text)
    else None

-- the process number with this text
unfoldable pub pid_of_text : List ℕ → Option ℕ
pid_of_text text =
    if nat_lt 0 (digits_value 10 text) && nat_lt (digits_value 10 text) (2 ^ 32)
    && bytes_eq (decimal (digits_value 10 text)) text
    then Some (digits_value 10 text)
    else None

-- the label with this text
unfoldable pub label_of_text : List ℕ → Option Tai64n
label_of_text text = result_ok (from_text text)

-- Event lines

abbrev pub byte_event : List (List ℕ) → Option Event
byte_event (text ∷ []) = option_map (λ byte. Byte byte) (byte_of_text text)
byte_event other = None

abbrev pub started : Option ℕ → Option Tai64n → Option Event
started (Some pid) (Some label) = Some (Started pid label)
started pid label = None

abbrev pub start_event : List (List ℕ) → Option Event
start_event (pid ∷ text ∷ []) = started (pid_of_text pid) (label_of_text text)
start_event other = None

abbrev pub label_event : (Tai64n → Event) → List (List ℕ) → Option Event
label_event event (text ∷ []) = option_map event (label_of_text text)
label_event event other = None

-- the event with this first word and these fields after it
abbrev pub event_of : List ℕ → List (List ℕ) → Option Event
event_of word rest =
    if bytes_eq word (codes "byte") then byte_event rest
    else if bytes_eq word (codes "started") then start_event rest
    else if bytes_eq word (codes "failed") then label_event (λ label. StartFailed label) rest
    else if bytes_eq word (codes "death") then label_event (λ label. Death label) rest
    else if bytes_eq word (codes "clock") then label_event (λ label. Clock label) rest
    else None

abbrev pub start_fault : List (List ℕ) → EventFault
start_fault (pid ∷ text ∷ []) = if is_some (pid_of_text pid) then fault.Label else fault.Number
start_fault other = fault.Line

abbrev pub label_fault : List (List ℕ) → EventFault
label_fault (text ∷ []) = fault.Label
label_fault other = fault.Line

-- whether a word is that of an event with nothing but a label
abbrev pub spells_label : List ℕ → Bool
spells_label word =
    bytes_eq word (codes "failed") || bytes_eq word (codes "death") || bytes_eq word (codes "clock")

-- The first fault of a line that spells no event, by its first word and the fields after it. The faults are, in order:
-- an unknown word; a wrong number of fields, or no text of a byte; no process number; no label.
abbrev pub first_fault : List ℕ → List (List ℕ) → EventFault
first_fault word rest =
    if bytes_eq word (codes "byte") then fault.Line
    else if bytes_eq word (codes "started") then start_fault rest
    else if spells_label word then label_fault rest
    else fault.UnknownEvent

-- the result of reading the line with these fields
abbrev pub event_from : List (List ℕ) → Result Event EventFault
event_from [] = Err fault.UnknownEvent
event_from (word ∷ rest) = ok_or (event_of word rest) (first_fault word rest)

-- Begin lines

-- whether there is a `down` file
abbrev pub side_of : List ℕ → Option Bool
side_of text =
    if bytes_eq text (codes "up") then Some false
    else if bytes_eq text (codes "down") then Some true
    else None

abbrev pub begun : Option Bool → Option Tai64n → Option (Bool × Tai64n)
begun (Some down) (Some label) = Some (down, label)
begun down label = None

abbrev pub side_event : List (List ℕ) → Option (Bool × Tai64n)
side_event (side ∷ text ∷ []) = begun (side_of side) (label_of_text text)
side_event other = None

-- the beginning with this first word and these fields after it
abbrev pub begin_of : List ℕ → List (List ℕ) → Option (Bool × Tai64n)
begin_of word rest = if bytes_eq word (codes "begin") then side_event rest else None

abbrev pub side_fault : List (List ℕ) → EventFault
side_fault (side ∷ text ∷ []) = if is_some (side_of side) then fault.Label else fault.Line
side_fault other = fault.Line

-- The first fault of a line that is no begin line: another word; a wrong number of fields, or neither `up` nor `down`;
-- no label.
abbrev pub begin_fault : List ℕ → List (List ℕ) → EventFault
begin_fault word rest = if bytes_eq word (codes "begin") then side_fault rest else fault.UnknownEvent

-- the result of reading the begin line with these fields
abbrev pub begin_from : List (List ℕ) → Result (Bool × Tai64n) EventFault
begin_from [] = Err fault.UnknownEvent
begin_from (word ∷ rest) = ok_or (begin_of word rest) (begin_fault word rest)
