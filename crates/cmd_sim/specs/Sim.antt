-- What `sim` prints for the lines of its input.
use Rattle.std.specs.Prelude.{◌≡◌, ◌⊎◌, ℕ, ◌+◌, ◌-◌, ◌≤◌, nat_lt, bytes_eq, Bool, true, false, if◌then◌else◌, List, []}
use Rattle.std.specs.Prelude.{◌∷◌, ◌++◌, length, take, codes, flat_map, Option, Some, None, Result, Ok, Err, IsErrOf, ⊤}
use Rattle.std.specs.Io.KnownBytes.{Appends, Consumes}
use Rattle.tai_status.specs.Label.{Tai64n}
use Rattle.tai_status.specs.Counted.{Device, AppendsFront}
use Rattle.tai_status.specs.Lines.{texts_of}
use Rattle.tai_status.specs.LineReader.{IsPlain}
use Rattle.cmd_base.specs.Printed.{printed}
use Rattle.sup_core.specs.declared.event.Event.{Event}
use Rattle.sup_core.specs.declared.asks.Reply.TheVariants.{Took}
use Rattle.sup_core.specs.declared.reading.EventFault.{EventFault}
use Rattle.sup_core.specs.declared.reading.EventFault.TheVariants as fault
use Rattle.sup_core.specs.History.{History, Begin, phase_of}
use Rattle.sup_core.specs.Rules.{next, reply_to, asks_of_begin}
use Rattle.sup_core.specs.Reading.{fields, begin_from, event_from}
use Rattle.sup_core.specs.Rules.{letters}
use Rattle.sup_core.specs.Text.{answer_text, table_text}
use Rattle.scan_table.specs.declared.fault.ScanFault.{ScanFault}
use Rattle.scan_table.specs.declared.fault.ScanFault.TheVariants as scan
use Rattle.suite_lines.specs.declared.event.SuiteEvent.{SuiteEvent}
use Rattle.suite_lines.specs.declared.event.SuiteEvent.TheVariants.{Scan, At}
use Rattle.suite_lines.specs.Reading.{suite_event_from}
use Rattle.suite_lines.specs.Text.{step_lines}
use Rattle.suite_core.specs.declared.fault.StepFault.{StepFault}
use Rattle.suite_core.specs.declared.fault.StepFault.TheVariants as step
use Rattle.suite_core.specs.Suite.{SuiteState, new_suite, refusal, outs_of, suite_after}
use Rattle.cmd_sim.specs.declared.fault.Why.{Why}
use Rattle.cmd_sim.specs.declared.fault.Why.TheVariants as why
use Rattle.cmd_sim.specs.declared.fault.SimFault.{SimFault}
use Rattle.cmd_sim.specs.declared.fault.SimFault.TheVariants as sim

-- A fact about the number of the line that is refused, and the reason, if a line is refused.
abbrev pub IfRefused : {A : Type 0} → Result A SimFault → (fact : ℕ → Why → Type 0) → Type 0
IfRefused result fact = (number : ℕ) (why : Why) → IsErrOf result (sim.Refused number why) → fact number why

-- What the lines so far said: nothing, a service's history, or a suite in its state.
pub data Past : Type 0 where
  Nothing : Past
  Service : History → Past
  OfSuite : SuiteState → Past

-- The meaning of a line: its answers, and what the lines have said after it.
pub record Said : Type 0 where
  pub texts : List (List ℕ)
  pub past : Past

abbrev pub event_why : EventFault → Why
event_why fault.UnknownEvent = why.UnknownEvent
event_why fault.Line = why.Line
event_why fault.Number = why.Number
event_why fault.Label = why.Label

-- the beginning of a service
abbrev pub beginning : Result (Bool × Tai64n) EventFault → Result Said Why
beginning (Err fault) = Err (event_why fault)
beginning (Ok opening) = Ok (record {
  texts = answer_text (Took (asks_of_begin (Begin opening.0 opening.1))) (phase_of (Begin opening.0 opening.1)) ∷ [];
  past = Service (Begin opening.0 opening.1);
})

-- an event after a history
abbrev pub going_on : History → Result Event EventFault → Result Said Why
going_on past (Err fault) = Err (event_why fault)
going_on past (Ok event) = Ok (record {
  texts = answer_text (reply_to past event) (phase_of (next past event)) ∷ [];
  past = Service (next past event);
})

-- the reason to refuse a line with this fault of a scan; a lack of memory refuses no line
abbrev pub scan_why : ScanFault → Option Why
scan_why (scan.Unsorted place) = Some why.Unsorted
scan_why (scan.Twice place) = Some why.Twice
scan_why scan.Exhausted = Some why.Exhausted
scan_why scan.OutOfMemory = None

-- the reason to refuse a line with this fault of a step
abbrev pub step_why : StepFault → Option Why
step_why step.NoSuchPart = Some why.NoSuchPart
step_why (step.Scan fault) = scan_why fault
step_why step.OutOfMemory = None

abbrev pub refused_step : Option StepFault → Option Why
refused_step None = None
refused_step (Some fault) = step_why fault

abbrev pub stepped_unless : {A : Type 0} → Option Why → SuiteState → SuiteEvent A → Result Said Why
stepped_unless (Some why) suite event = Err why
stepped_unless None suite event = Ok (record {
  texts = flat_map step_lines (outs_of suite event);
  past = OfSuite (suite_after suite event);
})

-- a step of a suite by an event
abbrev pub stepping : {A : Type 0} → SuiteState → Result (SuiteEvent A) EventFault → Result Said Why
stepping suite (Err fault) = Err (event_why fault)
stepping suite (Ok event) = stepped_unless (refused_step (refusal suite event)) suite event

-- whether a line's first word is that of a scan
abbrev pub spells_scan : List (List ℕ) → Bool
spells_scan [] = false
spells_scan (word ∷ rest) = bytes_eq word (codes "scan")

-- The first line begins a service, or a suite if it spells a scan. Each later line is an event.
abbrev pub said_by : Past → List ℕ → Result Said Why
said_by Nothing line =
    if spells_scan (fields line) then stepping (new_suite 0 256) (suite_event_from {A = Unit {0}} (fields line))
    else beginning (begin_from (fields line))
said_by (Service past) line = going_on past (event_from (fields line))
said_by (OfSuite suite) line = stepping suite (suite_event_from {A = Unit {0}} (fields line))

-- the meaning of a line after these lines; a line with more than 65,536 bytes has none
abbrev pub said : Past → List ℕ → Result Said Why
said past line = if nat_lt 65536 (length line) then Err why.Line else said_by past line

-- Memory can run out at a line: the line spells an event, and if the event is at a part, it is not refused.
abbrev pub IsRight : {A : Type 0} → SuiteState → Result (SuiteEvent A) EventFault → Type 0
IsRight suite (Err fault) = ⊥
IsRight suite (Ok (Scan rows label)) = ⊤
IsRight {A} suite (Ok (At part event)) = refused_step (refusal {A = A} suite (At part event)) ≡ None

-- The same, after what the lines said so far. Memory never runs out at a line of a service.
abbrev pub MayWantMemory : Past → List ℕ → Type 0
MayWantMemory Nothing line =
    (spells_scan (fields line) ≡ true) × IsRight (new_suite 0 256) (suite_event_from {A = Unit {0}} (fields line))
MayWantMemory (Service past) line = ⊥
MayWantMemory (OfSuite suite) line = IsRight suite (suite_event_from {A = Unit {0}} (fields line))

-- the answer to each of these lines, up to the first one that is refused
abbrev pub answers : Past → List (List ℕ) → List (List ℕ)
answers past [] = []
answers past (line ∷ lines) = elim (said past line) [
  | Ok answer ↦ answer.texts ++ answers answer.past lines
  | Err why ↦ []
]

-- A line that is refused: its number, and the reason.
pub record Refusal : Type 0 where
  pub line : ℕ
  pub why : Why

abbrev pub at_line : (line : ℕ) (why : Why) → Refusal
at_line line why = record { line = line; why = why }

-- the first line that is refused, if lines are numbered from here
abbrev pub first_refused : ℕ → Past → List (List ℕ) → Option Refusal
first_refused number past [] = None
first_refused number past (line ∷ lines) = elim (said past line) [
  | Ok answer ↦ first_refused (number + 1) answer.past lines
  | Err why ↦ Some (record { line = number; why = why })
]

-- what `sim` prints for an input: the answer to each line before the first one that is refused
abbrev pub printed_for : List ℕ → List ℕ
printed_for input = printed (answers Nothing (texts_of input))

-- the first line of an input that is refused
abbrev pub refused_in : List ℕ → Option Refusal
refused_in input = first_refused 1 Nothing (texts_of input)

-- whether these lines begin with a line of a suite
abbrev pub begins_suite : List (List ℕ) → Bool
begins_suite [] = false
begins_suite (line ∷ lines) = spells_scan (fields line)

-- An input begins with a line of a suite.
abbrev pub IsOfSuite : (before : Option (List ℕ)) → Type 0
IsOfSuite before = (input : List ℕ) → before ≡ Some input → begins_suite (texts_of input) ≡ true

-- No line of an input is refused, and what was written is what `sim` prints for it.
abbrev pub AnswersWhole : (before held holds : Option (List ℕ)) → Type 0
AnswersWhole before held holds =
    (input : List ℕ) → before ≡ Some input → (refused_in input ≡ None) × Appends held holds (printed_for input)

-- This is the first line of an input that is refused. What was written is what `sim` prints for the lines before it.
abbrev pub AnswersBefore : (before held holds : Option (List ℕ)) → Refusal → Type 0
AnswersBefore before held holds refusal =
    (input : List ℕ) → before ≡ Some input → (refused_in input ≡ Some refusal) × Appends held holds (printed_for input)

-- What was written is a prefix of what `sim` prints for the bytes that were read.
pub record AnswersPart (before after held holds : Option (List ℕ)) : Type 0 where
  pub bytes : List ℕ
  pub read : Consumes before after bytes
  pub text : AppendsFront held holds (printed_for bytes)

-- What was written is what `sim` prints for the whole lines that were read. A last line without a newline is not
-- answered.
pub record AnswersLines (before after held holds : Option (List ℕ)) : Type 0 where
  pub lines : List (List ℕ)
  pub rest : List ℕ
  pub read : Consumes before after (printed lines ++ rest)
  pub plain : IsPlain rest
  pub text : Appends held holds (printed_for (printed lines))

-- Memory ran out at one of the lines that were read: that line may need memory, and the answer to each line before it
-- is written.
pub record MissesAt (before after held holds : Option (List ℕ)) : Type 0 where
  pub bytes : List ℕ
  pub lines : List (List ℕ)
  pub line : List ℕ
  pub later : List (List ℕ)
  pub past : Past
  pub read : Consumes before after bytes
  pub cut : texts_of bytes ≡ lines ++ line ∷ later
  pub answered : (more : List (List ℕ)) → answers Nothing (lines ++ more) ≡ answers Nothing lines ++ answers past more
  pub wants : MayWantMemory past line
  pub text : Appends held holds (printed (answers Nothing lines))

-- What was read is the lines before this one, and at most 98,304 bytes more: the longest line and one block of 32,768.
pub record ReadsNear (before after : Option (List ℕ)) (line : ℕ) : Type 0 where
  pub bytes : List ℕ
  pub read : Consumes before after bytes
  pub near : length bytes ≤ length (printed (take (line - 1) (texts_of bytes))) + 98304

-- The same, for devices

abbrev pub AnswersAll : (reader : Device) (old new : Device) → Type 0
AnswersAll reader old new = AnswersWhole reader.bytes old.bytes new.bytes

abbrev pub AnswersUpTo : (reader reads : Device) (old new : Device) → Refusal → Type 0
AnswersUpTo reader reads old new refusal =
    AnswersBefore reader.bytes old.bytes new.bytes refusal × ReadsNear reader.bytes reads.bytes refusal.line

abbrev pub AnswersFront : (reader reads : Device) (old new : Device) → Type 0
AnswersFront reader reads old new = AnswersPart reader.bytes reads.bytes old.bytes new.bytes

abbrev pub AnswersWholeLines : (reader reads : Device) (old new : Device) → Type 0
AnswersWholeLines reader reads old new = AnswersLines reader.bytes reads.bytes old.bytes new.bytes

-- Memory was lacking: before anything was read, or at a line of a suite.
abbrev pub LacksMemory : (reader reads : Device) (old new : Device) → Type 0
LacksMemory reader reads old new =
    ((reads ≡ reader) × (new ≡ old))
    ⊎ (IsOfSuite reader.bytes × MissesAt reader.bytes reads.bytes old.bytes new.bytes)

-- The printed table: both sides of each control byte.
abbrev pub both_sides : ℕ → List (List ℕ)
both_sides byte = table_text byte true ∷ table_text byte false ∷ []

unfoldable pub printed_table : List ℕ
printed_table = printed (flat_map both_sides letters)
