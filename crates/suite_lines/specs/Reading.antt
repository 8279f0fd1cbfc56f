-- Reading a suite event's line: the event that it spells, or why it spells none.
use Rattle.std.specs.Prelude.{◌≡◌, ℕ, ◌^◌, nat_lt, ◌==◌, ◌&&◌, ◌||◌, Bool, if◌then◌else◌, List, [], ◌∷◌, codes}
use Rattle.std.specs.Prelude.{decimal, bytes_eq, Option, Some, None, Result, Ok, Err}
use Rattle.std.specs.List.{slice_split}
use Rattle.std.specs.Str.Parse.{digits_value}
use Rattle.tai_status.specs.Label.{Tai64n}
use Rattle.scan_table.specs.declared.part.Role.{Role}
use Rattle.scan_table.specs.declared.part.Role.TheVariants.{Main, Log}
use Rattle.scan_table.specs.declared.part.PartId.{PartId}
use Rattle.scan_table.specs.Slots.{Row}
use Rattle.sup_core.specs.declared.event.Event.{Event}
use Rattle.sup_core.specs.declared.reading.EventFault.{EventFault}
use Rattle.sup_core.specs.declared.reading.EventFault.TheVariants as fault
use Rattle.sup_core.specs.Reading.{label_of_text, event_from}
use Rattle.suite_lines.specs.declared.event.SuiteEvent.{SuiteEvent}
use Rattle.suite_lines.specs.declared.event.SuiteEvent.TheVariants.{Scan, At}
use Rattle.suite_lines.specs.Text.{is_row_name}

-- Parts

-- the fields of a part's text, separated by one dot
abbrev pub dotted : List ℕ → List (List ℕ)
dotted text = slice_split (λ byte. byte == 46) text

-- the number of 64 bits with this text
unfoldable pub number_of_text : List ℕ → Option ℕ
number_of_text text =
    if nat_lt (digits_value 10 text) (2 ^ 64) && bytes_eq (decimal (digits_value 10 text)) text
    then Some (digits_value 10 text)
    else None

-- the role with this name
abbrev pub role_of_text : List ℕ → Option Role
role_of_text text =
    if bytes_eq text (codes "main") then Some Main
    else if bytes_eq text (codes "log") then Some Log
    else None

-- A part, or the first fault: no role is a fault before no number.
abbrev pub part_of : (slot : Option ℕ) (role : Option Role) (life : Option ℕ) → Result PartId EventFault
part_of slot None life = Err fault.Line
part_of None (Some role) life = Err fault.Number
part_of (Some slot) (Some role) None = Err fault.Number
part_of (Some slot) (Some role) (Some life) = Ok (record { slot = slot; role = role; life = life })

-- the part with these fields
abbrev pub part_from : List (List ℕ) → Result PartId EventFault
part_from (slot ∷ role ∷ life ∷ []) = part_of (number_of_text slot) (role_of_text role) (number_of_text life)
part_from other = Err fault.Line

-- A text does not have the three fields of a part.
abbrev pub IsNoPart : List ℕ → Type 0
IsNoPart text = part_from (dotted text) ≡ Err fault.Line

-- Rows

-- whether a byte is the flag with this letter, set or not
abbrev pub is_flag : (letter byte : ℕ) → Bool
is_flag letter byte = byte == letter || byte == 45

-- whether these bytes are the four flags `d`, `l`, `n` and `m`, each set or not
abbrev pub are_flags : (dir log down log_down : ℕ) → Bool
are_flags dir log down log_down = is_flag 100 dir && is_flag 108 log && is_flag 110 down && is_flag 109 log_down

-- the row with this text: four flags, a colon and a name
abbrev pub row_of_text : List ℕ → Option Row
row_of_text (dir ∷ log ∷ down ∷ log_down ∷ colon ∷ name) =
    if are_flags dir log down log_down && colon == 58 && is_row_name name
    then
    Some (record {
      name = name;
      is_dir = dir == 100;
      has_log = log == 108;
      down = down == 110;
      log_down = log_down == 109;
    })
    else None
row_of_text other = None

abbrev pub onto_rows : Option Row → Option (List Row) → Option (List Row)
onto_rows (Some row) (Some rows) = Some (row ∷ rows)
onto_rows row rows = None

-- the rows with these texts
abbrev pub rows_of_texts : List (List ℕ) → Option (List Row)
rows_of_texts [] = Some []
rows_of_texts (text ∷ texts) = onto_rows (row_of_text text) (rows_of_texts texts)

-- Lines

-- A scan, or the first fault: first no label, then a field that is no row's text.
abbrev pub scan_of : {A : Type 0} → Option Tai64n → Option (List Row) → Result (SuiteEvent A) EventFault
scan_of None rows = Err fault.Label
scan_of (Some label) None = Err fault.Line
scan_of (Some label) (Some rows) = Ok (Scan rows label)

-- the scan with these fields after its word
abbrev pub scan_from : {A : Type 0} → List (List ℕ) → Result (SuiteEvent A) EventFault
scan_from [] = Err fault.Line
scan_from (label ∷ rows) = scan_of (label_of_text label) (rows_of_texts rows)

-- An event at a part, or the first fault: first that of the part, then that of the event.
abbrev pub at_of : {A : Type 0} → Result PartId EventFault → Result Event EventFault → Result (SuiteEvent A) EventFault
at_of (Err why) event = Err why
at_of (Ok part) (Err why) = Err why
at_of (Ok part) (Ok event) = Ok (At part event)

-- the event at a part with these fields after its word: the part, and an event line of at least one field
abbrev pub at_from : {A : Type 0} → List (List ℕ) → Result (SuiteEvent A) EventFault
at_from (part ∷ word ∷ rest) = at_of (part_from (dotted part)) (event_from (word ∷ rest))
at_from other = Err fault.Line

-- the result of reading the line with these fields
abbrev pub suite_event_from : {A : Type 0} → List (List ℕ) → Result (SuiteEvent A) EventFault
suite_event_from [] = Err fault.UnknownEvent
suite_event_from (word ∷ rest) =
    if bytes_eq word (codes "scan") then scan_from rest
    else if bytes_eq word (codes "at") then at_from rest
    else Err fault.UnknownEvent
