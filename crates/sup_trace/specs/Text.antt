-- The text of a trace: a header, a line for the base, one line for each entry, oldest first, and an end line with the
-- number of entries. Every line ends in a newline.
use Rattle.std.specs.Prelude.{ℕ, Bool, if◌then◌else◌, List, [], ◌∷◌, ◌++◌, map, length, flat_map, codes, decimal}
use Rattle.std.specs.Prelude.{Option, Some, None}
use Rattle.std.specs.List.{join_with_byte}
use Rattle.hex.specs.Hex.{encode_lower}
use Rattle.tai_status.specs.Label.{Tai64n, label_text}
use Rattle.tai_status.specs.Phase.{phase_name}
use Rattle.tai_status.specs.Record.{Status, status_record}
use Rattle.sup_core.specs.State.{State}
use Rattle.sup_core.specs.Text.{event_text}
use Rattle.sup_trace.specs.Content.{Content}

-- the first line
unfoldable pub header : List ℕ
header = codes "dtools-trace 1"

-- whether supervise exits after the process
abbrev pub stay_text : Bool → List ℕ
stay_text exiting = if exiting then codes "exit" else codes "stay"

-- until when the machine settles or rests
abbrev pub until_text : Option Tai64n → List ℕ
until_text None = codes "-"
until_text (Some label) = label_text label

-- the lower-case hexadecimal digits of a status record
abbrev pub record_digits : Status → List ℕ
record_digits status = encode_lower (status_record status)

-- the fields of the base's line: the count of folded events; the phase; the digits of the status record; whether
-- supervise exits after the process; and the end of settling or resting
abbrev pub base_fields : ℕ → State → List (List ℕ)
base_fields folded base =
    codes "base" ∷ decimal folded ∷ phase_name base.phase ∷ record_digits base.status
    ∷ stay_text base.exiting ∷ until_text base.until ∷ []

-- the base's line: its fields, separated by one space
abbrev pub base_text : ℕ → State → List ℕ
base_text folded base = join_with_byte 32 (base_fields folded base)

-- the last line
abbrev pub end_text : ℕ → List ℕ
end_text count = codes "end " ++ decimal count

-- the lines up to the last entry's
abbrev pub front_lines : Content → List (List ℕ)
front_lines content = header ∷ base_text content.folded content.base ∷ map event_text content.entries

-- the lines of a trace's text
abbrev pub trace_lines : Content → List (List ℕ)
trace_lines content = front_lines content ++ end_text (length content.entries) ∷ []

-- lines as a text, each with a newline
abbrev pub lines_text : List (List ℕ) → List ℕ
lines_text lines = flat_map (λ line. line ++ 10 ∷ []) lines

-- the text of a trace
abbrev pub trace_text : Content → List ℕ
trace_text content = lines_text (trace_lines content)
