-- What supervise takes and asks for, by the history so far: the table of daemontools' pages on supervise and svc.
use Rattle.std.specs.Prelude.{ℕ, ◌<◌, Bool, true, false, not, if◌then◌else◌, List, [], ◌∷◌, ◌++◌, map, flat_map, codes}
use Rattle.std.specs.Prelude.{Option, Some, None, ⊤}
use Rattle.tai_status.specs.Label.{Tai64n, is_earlier}
use Rattle.tai_status.specs.Full.{full_record}
use Rattle.sup_core.specs.declared.asks.Sig.{Sig}
use Rattle.sup_core.specs.declared.asks.Sig.TheVariants.{TERM, CONT, STOP, HUP, ALRM, INT, KILL, USR1, USR2, QUIT}
use Rattle.sup_core.specs.declared.asks.Ask.{Ask}
use Rattle.sup_core.specs.declared.asks.Ask.TheVariants.{Signal, Start, Write}
use Rattle.sup_core.specs.declared.asks.Reply.{Reply}
use Rattle.sup_core.specs.declared.asks.Reply.TheVariants.{Held, Took}
use Rattle.sup_core.specs.declared.event.Event.{Event}
use Rattle.sup_core.specs.declared.event.Event.TheVariants.{Byte, Started, StartFailed, Death, Clock}
use Rattle.tai_status.specs.declared.phase.Phase.{Phase}
use Rattle.tai_status.specs.declared.phase.Phase.TheVariants as phase
use Rattle.sup_core.specs.History.{History, Then, is_among, pid_of, runs, full_of, calls_for_start, phase_of, until_of}

-- The condition on an event: a process has a number of at least 1.
abbrev pub IsEvent : Event → Type 0
IsEvent (Started pid label) = 0 < pid
IsEvent event = ⊤

-- What is taken

abbrev pub is_reached : Option Tai64n → Tai64n → Bool
is_reached (Some until) label = not (is_earlier label until)
is_reached None label = false

abbrev pub reaches : Option Tai64n → Event → Bool
reaches until (Clock label) = is_reached until label
reaches until event = false

-- which events are taken in each phase
abbrev pub is_taken : Phase → Option Tai64n → Event → Bool
is_taken phase.Starting until (Started pid label) = true
is_taken phase.Starting until (StartFailed label) = true
is_taken phase.Settling until (Clock label) = is_reached until label
is_taken phase.Resting until (Clock label) = is_reached until label
is_taken phase.Up until (Byte byte) = true
is_taken phase.Up until (Death label) = true
is_taken phase.Down until (Byte byte) = true
is_taken phase until event = false

abbrev pub takes : History → Event → Bool
takes past event = is_taken (phase_of past) (until_of past) event

-- What is asked

-- A control byte: its letter, the signals that it sends while there is a process, and its meaning in a line.
pub record Control : Type 0 where
  pub letter : List ℕ
  pub signals : List Sig
  pub meaning : List ℕ

abbrev pub control : (letter : List ℕ) (signals : List Sig) (meaning : List ℕ) → Control
control letter signals meaning = record { letter = letter; signals = signals; meaning = meaning }

-- the control bytes, in the order in which the table is printed
abbrev pub controls : List Control
controls =
    control (codes "u") [] (codes "up: start it, and restart it whenever it exits") ∷
    control (codes "d") (TERM ∷ CONT ∷ []) (codes "down: send TERM and CONT, and do not restart it") ∷
    control (codes "o") [] (codes "once: start it, and do not restart it") ∷
    control (codes "p") (STOP ∷ []) (codes "pause: send STOP") ∷
    control (codes "c") (CONT ∷ []) (codes "continue: send CONT") ∷
    control (codes "h") (HUP ∷ []) (codes "send HUP") ∷
    control (codes "a") (ALRM ∷ []) (codes "send ALRM") ∷
    control (codes "i") (INT ∷ []) (codes "send INT") ∷
    control (codes "t") (TERM ∷ []) (codes "send TERM") ∷
    control (codes "k") (KILL ∷ []) (codes "send KILL") ∷
    control (codes "x") [] (codes "exit: stop supervising it once it is down") ∷
    control (codes "1") (USR1 ∷ []) (codes "send USR1") ∷
    control (codes "2") (USR2 ∷ []) (codes "send USR2") ∷
    control (codes "q") (QUIT ∷ []) (codes "send QUIT") ∷ []

-- the letters of all control bytes
abbrev pub letters : List ℕ
letters = flat_map (λ row. row.letter) controls

abbrev pub is_letter : ℕ → Bool
is_letter byte = is_among letters byte

abbrev pub signals_in : List Control → ℕ → List Sig
signals_in [] byte = []
signals_in (row ∷ rows) byte = if is_among row.letter byte then row.signals else signals_in rows byte

-- the signals of a byte, if there is a process
abbrev pub signals_of : ℕ → List Sig
signals_of byte = signals_in controls byte

abbrev pub first_of : List Sig → Option Sig
first_of [] = None
first_of (sig ∷ sigs) = Some sig

-- the first signal of a byte, if there is a process
abbrev pub signal_of : ℕ → Option Sig
signal_of byte = first_of (signals_of byte)

abbrev pub signals_after : History → Event → List Ask
signals_after past (Byte byte) =
    if runs past then map (λ sig. Signal sig (pid_of past)) (signals_of byte) else []
signals_after past event = []

-- whether an event causes a status record: a control byte that can change the record, or any event that is no control
-- byte
abbrev pub writes : Event → Bool
writes (Byte byte) = is_among (codes "udopcx") byte
writes event = true

abbrev pub record_of : History → List Ask
record_of history = Write (full_record (full_of history)) ∷ []

abbrev pub start_of : History → List Ask
start_of history = if calls_for_start history then Start ∷ [] else []

-- what supervise asks for at an event that it takes
abbrev pub asks_of : History → Event → List Ask
asks_of past event =
    signals_after past event
    ++ (if writes event then record_of (Then past event) else [])
    ++ start_of (Then past event)

-- what supervise asks for when it begins
abbrev pub asks_of_begin : History → List Ask
asks_of_begin history = record_of history ++ start_of history

-- Replies

-- the history after an event; an event that is not taken leaves no mark
abbrev pub next : History → Event → History
next past event = if takes past event then Then past event else past

-- the reply to an event
abbrev pub reply_to : History → Event → Reply
reply_to past event = if takes past event then Took (asks_of past event) else Held
