-- The texts of a suite's events, and of the results of its steps. The forms of a part, of a row and of the lines are
-- this project's own.
use Rattle.std.specs.Prelude.{◌≡◌, ℕ, ◌<◌, ◌^◌, ◌&&◌, nat_le, Bool, true, false, if◌then◌else◌, List, [], ◌∷◌, ◌++◌}
use Rattle.std.specs.Prelude.{map, length, codes, decimal}
use Rattle.std.specs.List.{AllByRecursion, list_all, join_with_byte}
use Rattle.tai_status.specs.Label.{IsLabel, label_text}
use Rattle.scan_table.specs.declared.part.Role.{Role}
use Rattle.scan_table.specs.declared.part.Role.TheVariants.{Main, Log}
use Rattle.scan_table.specs.declared.part.PartId.{PartId}
use Rattle.scan_table.specs.declared.table.ScanOut.{ScanOut}
use Rattle.scan_table.specs.Slots.{Row}
use Rattle.sup_core.specs.declared.asks.Reply.TheVariants.{Took}
use Rattle.sup_core.specs.Reading.{IsInRange}
use Rattle.sup_core.specs.Text.{event_fields, answer_text}
use Rattle.suite_lines.specs.declared.event.SuiteEvent.{SuiteEvent}
use Rattle.suite_lines.specs.declared.event.SuiteEvent.TheVariants.{Scan, At}
use Rattle.suite_lines.specs.declared.out.Begun.{Begun}
use Rattle.suite_lines.specs.declared.out.StepOut.{StepOut}
use Rattle.suite_lines.specs.declared.out.StepOut.TheVariants as out

-- Parts

abbrev pub role_name : Role → List ℕ
role_name Main = codes "main"
role_name Log = codes "log"

-- the fields of a part: its slot, its role and its life
abbrev pub part_fields : PartId → List (List ℕ)
part_fields part = decimal part.slot ∷ role_name part.role ∷ decimal part.life ∷ []

-- the text of a part: its fields, separated by one dot
abbrev pub part_text : PartId → List ℕ
part_text part = join_with_byte 46 (part_fields part)

-- Rows

-- a set flag is its letter, and an unset one is `-`
abbrev pub flag_text : Bool → List ℕ → List ℕ
flag_text set letter = if set then letter else codes "-"

-- a row's four flags, in this order
abbrev pub flags_text : Row → List ℕ
flags_text row =
    flag_text row.is_dir (codes "d") ++ flag_text row.has_log (codes "l")
    ++ flag_text row.down (codes "n") ++ flag_text row.log_down (codes "m")

-- the text of a row: its flags, a colon, and its name
abbrev pub row_text : Row → List ℕ
row_text row = flags_text row ++ codes ":" ++ row.name

-- whether a byte is one from `!` to `~`
abbrev pub is_graphic : ℕ → Bool
is_graphic byte = nat_le 0x21 byte && nat_le byte 0x7e

-- A name that a line can spell has at least one byte, and all its bytes are from `!` to `~`.
abbrev pub is_row_name : List ℕ → Bool
is_row_name [] = false
is_row_name (byte ∷ bytes) = list_all is_graphic (byte ∷ bytes)

-- Events

-- The numbers of a part are in range.
pub record IsPart (part : PartId) : Type 0 where
  pub slot : part.slot < 2 ^ 64
  pub life : part.life < 2 ^ 64

-- A line can spell the event: its numbers are in range, and a line can spell its names.
abbrev pub IsSpellable : {A : Type 0} → SuiteEvent A → Type 0
IsSpellable (Scan rows label) = IsLabel label × AllByRecursion (λ (row : Row). is_row_name row.name ≡ true) rows
IsSpellable (At part event) = IsPart part × IsInRange event

-- the fields of a suite event's line
abbrev pub suite_event_fields : {A : Type 0} → SuiteEvent A → List (List ℕ)
suite_event_fields (Scan rows label) = codes "scan" ∷ label_text label ∷ map row_text rows
suite_event_fields (At part event) = codes "at" ∷ part_text part ∷ event_fields event

-- the line of a suite event: its fields, separated by one space
abbrev pub suite_event_text : {A : Type 0} → SuiteEvent A → List ℕ
suite_event_text event = join_with_byte 32 (suite_event_fields event)

-- The result of a step

-- how many parts a scan started and restarted, how many slots it dropped, and how many names it refused
abbrev pub counts_text : {A : Type 0} → ScanOut A → List ℕ
counts_text scanned =
    codes "scan: " ++ decimal (length scanned.starts) ++ codes " started, "
    ++ decimal (length scanned.restarts) ++ codes " restarted, "
    ++ decimal (length scanned.drops) ++ codes " dropped, "
    ++ decimal (length scanned.refused) ++ codes " refused"

-- a slot that was dropped
abbrev pub drop_text : ℕ → List ℕ
drop_text slot = decimal slot ++ codes " dropped"

-- a part, and its answer
abbrev pub part_answer : PartId → List ℕ → List ℕ
part_answer part answer = part_text part ++ codes " " ++ answer

-- a part that a scan began, in the form of an event that was taken
abbrev pub begun_text : Begun → List ℕ
begun_text begun = part_answer begun.part (answer_text (Took begun.asks) begun.phase)

-- a name that gets no slot
abbrev pub refused_text : List ℕ → List ℕ
refused_text name = name ++ codes " refused TooMany"

-- the lines of a step's result
abbrev pub step_lines : {A : Type 0} → StepOut A → List (List ℕ)
step_lines (out.Scanned scanned begun) =
    (counts_text scanned ∷ []) ++ map drop_text scanned.drops ++ map begun_text begun
    ++ map refused_text scanned.refused
step_lines (out.At part reply phase) = part_answer part (answer_text reply phase) ∷ []
