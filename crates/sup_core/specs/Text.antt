-- The texts of events and of answers.
use Rattle.std.specs.Prelude.{ℕ, Bool, not, ◌&&◌, nat_le, if◌then◌else◌, List, [], ◌∷◌, ◌++◌, map, codes, decimal}
use Rattle.std.specs.List.{flat_map, join_with_byte}
use Rattle.hex.specs.Hex.{encode_lower}
use Rattle.tai_status.specs.Label.{Tai64n, label_text}
use Rattle.tai_status.specs.Phase.{phase_name}
use Rattle.sup_core.specs.declared.asks.Sig.{Sig}
use Rattle.sup_core.specs.declared.asks.Sig.TheVariants.{TERM, CONT, STOP, HUP, ALRM, INT, KILL, USR1, USR2, QUIT}
use Rattle.sup_core.specs.declared.asks.Ask.{Ask}
use Rattle.sup_core.specs.declared.asks.Ask.TheVariants.{Signal, Start, Write}
use Rattle.sup_core.specs.declared.asks.Reply.{Reply}
use Rattle.sup_core.specs.declared.asks.Reply.TheVariants.{Held, Took}
use Rattle.sup_core.specs.declared.event.Event.{Event}
use Rattle.sup_core.specs.declared.event.Event.TheVariants.{Byte, Started, StartFailed, Death, Clock}
use Rattle.tai_status.specs.declared.phase.Phase.{Phase}
use Rattle.sup_core.specs.declared.reading.EventFault.{EventFault}
use Rattle.sup_core.specs.declared.reading.EventFault.TheVariants as why
use Rattle.sup_core.specs.History.{is_among}
use Rattle.sup_core.specs.Rules.{signals_of, writes}

-- A byte from `!` to `~` is itself. Any other byte is its two lower-case hexadecimal digits.
abbrev pub byte_text : ℕ → List ℕ
byte_text byte =
    if nat_le 0x21 byte && nat_le byte 0x7e then byte ∷ [] else encode_lower (byte ∷ [])

-- the fields of an event's line
abbrev pub event_fields : Event → List (List ℕ)
event_fields (Byte byte) = codes "byte" ∷ byte_text byte ∷ []
event_fields (Started pid label) = codes "started" ∷ decimal pid ∷ label_text label ∷ []
event_fields (StartFailed label) = codes "failed" ∷ label_text label ∷ []
event_fields (Death label) = codes "death" ∷ label_text label ∷ []
event_fields (Clock label) = codes "clock" ∷ label_text label ∷ []

-- the line of an event: its fields, separated by one space
abbrev pub event_text : Event → List ℕ
event_text event = join_with_byte 32 (event_fields event)

-- the fields of a begin line
abbrev pub begin_fields : Bool → Tai64n → List (List ℕ)
begin_fields down label =
    codes "begin" ∷ (if down then codes "down" else codes "up") ∷ label_text label ∷ []

-- the line that says how supervise begins
abbrev pub begin_text : Bool → Tai64n → List ℕ
begin_text down label = join_with_byte 32 (begin_fields down label)

abbrev pub signal_name : Sig → List ℕ
signal_name TERM = codes "TERM"
signal_name CONT = codes "CONT"
signal_name STOP = codes "STOP"
signal_name HUP = codes "HUP"
signal_name ALRM = codes "ALRM"
signal_name INT = codes "INT"
signal_name KILL = codes "KILL"
signal_name USR1 = codes "USR1"
signal_name USR2 = codes "USR2"
signal_name QUIT = codes "QUIT"

abbrev pub ask_text : Ask → List ℕ
ask_text (Signal sig pid) = signal_name sig ++ codes ":" ++ decimal pid
ask_text Start = codes "start"
ask_text (Write bytes) = codes "record:" ++ encode_lower bytes

-- why a line is refused
abbrev pub fault_name : EventFault → List ℕ
fault_name why.UnknownEvent = codes "UnknownEvent"
fault_name why.Line = codes "Line"
fault_name why.Number = codes "Number"
fault_name why.Label = codes "Label"

-- what was asked for, each ask after a space
abbrev pub asks_text : List Ask → List ℕ
asks_text asks = flat_map (λ ask. 32 ∷ ask_text ask) asks

abbrev pub reply_text : Reply → List ℕ
reply_text Held = codes "held"
reply_text (Took asks) = codes "took" ++ asks_text asks

-- the answer to an event, and the phase after it
abbrev pub answer_text : Reply → Phase → List ℕ
answer_text reply phase = reply_text reply ++ codes " -> " ++ phase_name phase

-- the greatest length of the text of an ask
abbrev pub longest : Ask → ℕ
longest (Signal sig pid) = 17
longest Start = 5
longest (Write bytes) = 47

-- The printed table

abbrev pub ask_name : Ask → List ℕ
ask_name (Signal sig pid) = signal_name sig
ask_name Start = codes "start"
ask_name (Write bytes) = codes "record"

-- the names of what a byte asks for, if there is a process and if there is none
abbrev pub asked_names : ℕ → Bool → List (List ℕ)
asked_names byte running =
    (if running then map signal_name (signals_of byte) else [])
    ++ (if writes (Byte byte) then codes "record" ∷ [] else [])
    ++ (if is_among (codes "uo") byte && not running then codes "start" ∷ [] else [])

abbrev pub names_text : List (List ℕ) → List ℕ
names_text [] = codes "nothing"
names_text (name ∷ names) = join_with_byte 32 (name ∷ names)

-- the line of a byte
abbrev pub table_text : ℕ → Bool → List ℕ
table_text byte running =
    byte_text byte
    ++ (if running then codes " running: " else codes " idle: ")
    ++ names_text (asked_names byte running)
