-- What `sim` reports about its faults, and how it exits.
use Rattle.std.specs.Prelude.{◌≡◌, ℕ, ◌⊎◌, List, [], ◌∷◌, ◌++◌, bytes_eq, codes, decimal, MatchBool}
use Rattle.tai_status.specs.Counted.{Device, Fails, Works, Wrote, WroteFront, IsRead, Reports, device_report}
use Rattle.cmd_base.specs.Console.{Console, EndsWell}
use Rattle.cmd_base.specs.Usage.{RefusesWords}
use Rattle.cmd_base.specs.declared.command.Command.TheVariants as command
use Rattle.cmd_sim.specs.Sim.{MissesAt}
use Rattle.cmd_sim.specs.Sim.{Refusal, IsOfSuite, AnswersAll, AnswersUpTo, AnswersFront, AnswersWholeLines}
use Rattle.cmd_sim.specs.Sim.{printed_table}
use Rattle.cmd_sim.specs.declared.fault.Why.{Why}
use Rattle.cmd_sim.specs.declared.fault.Why.TheVariants as why
use Rattle.cmd_sim.specs.declared.fault.SimFault.{SimFault}
use Rattle.cmd_sim.specs.declared.fault.SimFault.TheVariants as fault

-- Faults

-- the name of the reason to refuse a line
abbrev pub why_name : Why → List ℕ
why_name why.UnknownEvent = codes "UnknownEvent"
why_name why.Line = codes "Line"
why_name why.Number = codes "Number"
why_name why.Label = codes "Label"
why_name why.NoSuchPart = codes "NoSuchPart"
why_name why.Unsorted = codes "Unsorted"
why_name why.Twice = codes "Twice"
why_name why.Exhausted = codes "Exhausted"

-- the report of a line that is refused
abbrev pub refused_report : (line : ℕ) → Why → List ℕ
refused_report line why = codes "sim: line " ++ decimal line ++ codes ": " ++ why_name why ++ 10 ∷ []

-- the report of a writer that failed
abbrev pub unwritten_report : (writer : Device) → List ℕ
unwritten_report writer = device_report (codes "sim: ") (codes "write fault") writer

-- The report of a fault. For a device that failed, it includes the cause of the last fault.
abbrev pub report_of : SimFault → (reader writer : Device) → List ℕ
report_of (fault.Refused line why) reader writer = refused_report line why
report_of fault.OutOfMemory reader writer = codes "sim: OutOfMemory" ++ 10 ∷ []
report_of fault.Read reader writer = device_report (codes "sim: ") (codes "read fault") reader
report_of fault.Write reader writer = unwritten_report writer

abbrev pub status_of : SimFault → ℕ
status_of (fault.Refused line why) = 100
status_of fault.OutOfMemory = 111
status_of fault.Read = 111
status_of fault.Write = 111

-- `sim` without words

-- No line is refused, the answer to each line is written, no device failed, and nothing is reported.
pub record AnswersInput (old new : Console) : Type 0 where
  pub answers : AnswersAll old.reader old.writer new.writer
  pub end : IsRead new.reader
  pub well : EndsWell old new

-- A line is refused and reported, the answer to each line before it is written, and not much more is read.
pub record RefusesLine (old new : Console) : Type 0 where
  pub refusal : Refusal
  pub answers : AnswersUpTo old.reader new.reader old.writer new.writer refusal
  pub reads : Works old.reader new.reader
  pub writes : Works old.writer new.writer
  pub reported : Reports old.faults new.faults (refused_report refusal.line refusal.why)

-- Memory was lacking. Either nothing was read or written, or it ran out at a line of a suite.
abbrev pub MissesMemory : (old new : Console) → Type 0
MissesMemory old new =
    ((new.reader ≡ old.reader) × (new.writer ≡ old.writer))
    ⊎ (IsOfSuite old.reader.bytes × MissesAt old.reader.bytes new.reader.bytes old.writer.bytes new.writer.bytes)

-- The cause of a fault: memory was lacking; or the reader failed, and the whole lines that were read are answered; or
-- the writer failed, after a prefix of the answer to what was read.
abbrev pub SimCause : SimFault → (old new : Console) → Type 0
SimCause (fault.Refused line why) old new = ⊥
SimCause fault.OutOfMemory old new = MissesMemory old new
SimCause fault.Read old new =
    Fails old.reader new.reader × AnswersWholeLines old.reader new.reader old.writer new.writer
SimCause fault.Write old new = Fails old.writer new.writer × AnswersFront old.reader new.reader old.writer new.writer

-- There is trouble, and its cause is reported.
pub record ReportsTrouble (old new : Console) : Type 0 where
  pub fault : SimFault
  pub cause : SimCause fault old new
  pub reported : Reports old.faults new.faults (report_of fault new.reader new.writer)

-- By the exit status: all lines are answered, or one is refused, or there is trouble.
abbrev pub AnswersByStatus : (status : ℕ) (old new : Console) → Type 0
AnswersByStatus status old new =
    ((status ≡ 0) × AnswersInput old new)
    ⊎ (((status ≡ 100) × RefusesLine old new) ⊎ ((status ≡ 111) × ReportsTrouble old new))

-- `sim table`

-- The table was written, no device failed, and nothing is reported.
pub record PrintsTable (writer writes faults reports : Device) : Type 0 where
  pub written : Wrote writer writes printed_table
  pub works : Works writer writes
  pub unreported : reports ≡ faults

-- The writer failed after a prefix of the table. This is reported with its cause.
pub record PrintsNoTable (writer writes faults reports : Device) : Type 0 where
  pub front : WroteFront writer writes printed_table
  pub failed : Fails writer writes
  pub reported : Reports faults reports (unwritten_report writes)

-- The table, by the exit status.
abbrev pub TableByStatus : (status : ℕ) (writer writes faults reports : Device) → Type 0
TableByStatus status writer writes faults reports =
    ((status ≡ 0) × PrintsTable writer writes faults reports)
    ⊎ ((status ≡ 111) × PrintsNoTable writer writes faults reports)

-- The same, if nothing is read.
abbrev pub TableEnds : (status : ℕ) (old new : Console) → Type 0
TableEnds status old new = (new.reader ≡ old.reader) × TableByStatus status old.writer new.writer old.faults new.faults

-- `sim` answers its input, `sim table` prints the table, and other words are wrong.
abbrev pub SimEnds : (words : List (List ℕ)) (status : ℕ) (old new : Console) → Type 0
SimEnds [] status old new = AnswersByStatus status old new
SimEnds (word ∷ []) status old new =
    MatchBool (bytes_eq word (codes "table")) (TableEnds status old new)
    (RefusesWords command.Sim status old new)
SimEnds (word ∷ more ∷ words) status old new = RefusesWords command.Sim status old new
