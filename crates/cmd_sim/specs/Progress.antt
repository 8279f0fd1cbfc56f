-- How far `sim` has come. No public contract names these definitions.
use Rattle.std.specs.Prelude.{◌≡◌, ℕ, ◌+◌, Bool, true, false, List, [], ◌∷◌, ◌++◌, length, Option, Some, None, Result}
use Rattle.std.specs.Prelude.{Ok, Err, ⊤}
use Rattle.std.specs.Io.KnownBytes.{Consumes}
use Rattle.tai_status.specs.Block.{Emits}
use Rattle.tai_status.specs.Lines.{texts_of}
use Rattle.cmd_base.specs.Printed.{printed}
use Rattle.sup_core.specs.State.{State}
use Rattle.sup_core.specs.History.{History, state_of}
use Rattle.sup_core.specs.Reading.{fields}
use Rattle.suite_core.specs.declared.fault.StepFault.{StepFault}
use Rattle.suite_core.specs.Suite.{SuiteState, new_suite}
use Rattle.suite_lines.specs.Reading.{suite_event_from}
use Rattle.suite_lines.specs.declared.fault.SuiteLineFault.{SuiteLineFault}
use Rattle.suite_lines.specs.declared.fault.SuiteLineFault.TheVariants as read
use Rattle.cmd_sim.specs.declared.answering.Subject.{Subject}
use Rattle.cmd_sim.specs.declared.answering.Subject.TheVariants as code
use Rattle.cmd_sim.specs.declared.answering.Answer.{Answer}
use Rattle.cmd_sim.specs.declared.answering.Answer.TheVariants as written
use Rattle.cmd_sim.specs.declared.fault.Why.{Why}
use Rattle.cmd_sim.specs.declared.fault.Why.TheVariants as why
use Rattle.cmd_sim.specs.declared.fault.NoAnswer.{NoAnswer}
use Rattle.cmd_sim.specs.declared.fault.NoAnswer.TheVariants as none
use Rattle.cmd_sim.specs.Sim.{Past, Nothing, Service, OfSuite, Said, said, said_by, answers, first_refused, spells_scan}
use Rattle.cmd_sim.specs.Sim.{begins_suite, step_why, stepping}

-- Why a line has no answer

abbrev pub unread : SuiteLineFault → NoAnswer
unread read.UnknownEvent = none.Refused why.UnknownEvent
unread read.Line = none.Refused why.Line
unread read.Number = none.Refused why.Number
unread read.Label = none.Refused why.Label
unread read.OutOfMemory = none.OutOfMemory

abbrev pub refused_or_missed : Option Why → NoAnswer
refused_or_missed (Some why) = none.Refused why
refused_or_missed None = none.OutOfMemory

abbrev pub unstepped : StepFault → NoAnswer
unstepped fault = refused_or_missed (step_why fault)

-- One line

-- The answer to a line of a service is this text, and its machine is then in this state.
pub record SaysService (subject : Result Said Why) (machine : State) (text : List ℕ) : Type 0 where
  pub past : History
  pub is : subject ≡ Ok (record { texts = text ∷ []; past = Service past })
  pub stands : state_of past ≡ machine

-- A service took what a line says. For each history that leads to the old machine, the answer to the line is this text,
-- and its machine is then the new one.
abbrev pub StepsService : (line : List ℕ) (old new : State) (text : List ℕ) → Type 0
StepsService line old new text =
    (past : History) → state_of past ≡ old → SaysService (said_by (Service past) line) new text

-- A suite took an event: these are the lines of its result, and this is the suite afterwards.
abbrev pub StepsTo : Result Said Why → (lines : List (List ℕ)) → SuiteState → Type 0
StepsTo subject lines suite = subject ≡ Ok (record { texts = lines; past = OfSuite suite })

-- what the line of a suite's first event says, by its fields
abbrev pub first_step : (A : Type 0) → List (List ℕ) → Result Said Why
first_step A parts = stepping (new_suite 0 256) (suite_event_from {A = A} parts)

-- The value in the code represents what the lines so far said.
abbrev pub Stands : {A : Type 0} → Past → Subject A → Type 0
Stands Nothing code.Nothing = ⊤
Stands (Service past) (code.Service machine) = state_of past ≡ machine
Stands (OfSuite suite) (code.Suite stands) = stands ≡ suite
Stands past subject = ⊥

-- the lines of an answer
abbrev pub texts_in : {A : Type 0} → Answer A → List (List ℕ)
texts_in (written.Line text) = text.bytes ∷ []
texts_in (written.Lines lines) = lines

-- The answer to a line is these texts, and the value in the code is then right for it.
pub record Says {A : Type 0} (past : Past) (line : List ℕ) (texts : List (List ℕ)) (subject : Subject A) : Type 0 where
  pub answer : Said
  pub is : said past line ≡ Ok answer
  pub texts_are : texts ≡ answer.texts
  pub stands : Stands answer.past subject

-- the answer to a line, with a newline after each of its lines, or nothing if the line is refused
abbrev pub text_said : Result Said Why → List ℕ
text_said (Ok answer) = printed answer.texts
text_said (Err why) = []

-- A line was answered. Its answers wait to be written, after those that wait already.
pub record Answered {A : Type 0} (past : Past) (line : List ℕ) (subject : Subject A)
    (held holds : Option (List ℕ)) (waiting left : List ℕ) : Type 0 where
  pub answer : Said
  pub is : said past line ≡ Ok answer
  pub stands : Stands answer.past subject
  pub text : Emits held holds waiting left (printed answer.texts)

-- whether a line belongs to a suite, after what was said so far
abbrev pub is_suite_line : Past → List ℕ → Bool
is_suite_line Nothing line = spells_scan (fields line)
is_suite_line (Service past) line = false
is_suite_line (OfSuite suite) line = true

-- The whole lines among the bytes that were read are answered, except for the pending ones. Some of the answers wait to
-- be written.
pub record SoFar {A : Type 0} (before now held holds : Option (List ℕ)) (pending waiting : List ℕ) (subject : Subject A)
    (count : ℕ) : Type 0 where
  pub done : List ℕ
  pub lines : List (List ℕ)
  pub texts : List (List ℕ)
  pub past : Past
  pub read : Consumes before now (done ++ pending)
  pub whole : done ≡ printed lines
  pub counted : count ≡ length lines
  pub cut : (more : List ℕ) → texts_of (done ++ more) ≡ lines ++ texts_of more
  pub says : (later : List (List ℕ)) → answers Nothing (lines ++ later) ≡ texts ++ answers past later
  pub refuses : (later : List (List ℕ))
      → first_refused 1 Nothing (lines ++ later) ≡ first_refused (count + 1) past later
  pub text : Emits held holds [] waiting (printed texts)
  pub stands : Stands past subject
  pub suite : (line : List ℕ) (later : List (List ℕ)) → is_suite_line past line ≡ true
      → begins_suite (lines ++ line ∷ later) ≡ true
