-- The lines of a suite are a run of it, in which each service continues by its own events alone.
use Rattle.std.specs.Prelude.{◌≡◌, ◌⊎◌, ℕ, ◌-◌, nat_lt, true, if◌then◌else◌, List, [], ◌∷◌, length, take, flat_map}
use Rattle.std.specs.Prelude.{Option, Some, Result, Ok, Err}
use Rattle.std.specs.Io.KnownBytes.{Appends, Consumes}
use Rattle.tai_status.specs.Counted.{AppendsFront, Reports}
use Rattle.tai_status.specs.Lines.{texts_of}
use Rattle.cmd_base.specs.Console.{Console}
use Rattle.cmd_base.specs.Printed.{printed}
use Rattle.sup_core.specs.Reading.{fields}
use Rattle.sup_core.specs.declared.reading.EventFault.{EventFault}
use Rattle.sup_core.specs.declared.reading.EventFault.TheVariants as fault
use Rattle.suite_lines.specs.declared.event.SuiteEvent.{SuiteEvent}
use Rattle.suite_lines.specs.Reading.{suite_event_from}
use Rattle.suite_lines.specs.Text.{step_lines}
use Rattle.suite_core.specs.Suite.{new_suite}
use Rattle.suite_core.specs.Run.{AreAccepted, BeginAsRowsSay, GoByOwnEvents, LeaveOthers, ReplyByOwnHistory, outs_along}
use Rattle.cmd_sim.specs.declared.fault.Why.{Why}
use Rattle.cmd_sim.specs.Sim.{begins_suite}
use Rattle.cmd_sim.specs.Ends.{refused_report}

-- an event of a suite, in any memory
abbrev pub LineEvent : Type 0
LineEvent = SuiteEvent (Unit {0})

-- the event that a line spells; a line with more than 65,536 bytes spells none
abbrev pub event_of_line : List ℕ → Result LineEvent EventFault
event_of_line line = if nat_lt 65536 (length line) then Err fault.Line else suite_event_from (fields line)

abbrev pub spelt : Result LineEvent EventFault → List LineEvent
spelt (Ok event) = event ∷ []
spelt (Err why) = []

-- the events that these lines spell, in order
abbrev pub events_of : List (List ℕ) → List LineEvent
events_of lines = flat_map (λ line. spelt (event_of_line line)) lines

-- the lines that a new suite gives for the events of these lines
abbrev pub suite_answers : List (List ℕ) → List (List ℕ)
suite_answers lines = flat_map step_lines (outs_along (new_suite 0 256) (events_of lines))

-- These lines are a run of a new suite: each spells an event, and none is refused in its turn.
pub record RunsSuite (lines : List (List ℕ)) : Type 0 where
  pub each_spells : length (events_of lines) ≡ length lines
  pub accepted : AreAccepted (new_suite 0 256) (events_of lines)
  -- The reply to each event at a service is that of the service's own history. A service that is still there has the
  -- machine and the trace of its own events alone. Every service that an event does not concern is as it was. What a
  -- scan begins opens as its row says.
  pub replies : ReplyByOwnHistory (new_suite 0 256) (events_of lines) (length lines)
  pub own : GoByOwnEvents (new_suite 0 256) (events_of lines) (length lines)
  pub others : LeaveOthers (new_suite 0 256) (events_of lines) (length lines)
  pub begins : BeginAsRowsSay (new_suite 0 256) (events_of lines) (length lines)

-- These lines are a run of a suite, and its answers are written.
pub record WritesRun (lines : List (List ℕ)) (held holds : Option (List ℕ)) : Type 0 where
  pub runs : RunsSuite lines
  pub written : Appends held holds (printed (suite_answers lines))

-- The same, but only a prefix of the answers is written.
pub record WritesRunFront (lines : List (List ℕ)) (held holds : Option (List ℕ)) : Type 0 where
  pub runs : RunsSuite lines
  pub written : AppendsFront held holds (printed (suite_answers lines))

-- All lines of an input that begins with a scan are a run of a suite.
abbrev pub AllRun : (before held holds : Option (List ℕ)) → Type 0
AllRun before held holds =
    (input : List ℕ) → before ≡ Some input → begins_suite (texts_of input) ≡ true
    → WritesRun (texts_of input) held holds

-- The lines before the line with this number are a run of a suite.
abbrev pub LinesBeforeRun : (number : ℕ) (before held holds : Option (List ℕ)) → Type 0
LinesBeforeRun number before held holds =
    (input : List ℕ) → before ≡ Some input → begins_suite (texts_of input) ≡ true
    → WritesRun (take (number - 1) (texts_of input)) held holds

-- The first of the lines that were read are a run of a suite.
pub record FirstLinesRun (before after held holds : Option (List ℕ)) : Type 0 where
  pub bytes : List ℕ
  pub read : Consumes before after bytes
  pub run : begins_suite (texts_of bytes) ≡ true → (count : ℕ) × WritesRunFront (take count (texts_of bytes)) held holds

-- A line is refused and reported, and the lines before it are a run.
pub record RunsToRefused (old new : Console) : Type 0 where
  pub line : ℕ
  pub why : Why
  pub reported : Reports old.faults new.faults (refused_report line why)
  pub run : LinesBeforeRun line old.reader.bytes old.writer.bytes new.writer.bytes

-- By the exit status: all lines of a suite are a run of it; or those before the refused line are; or the first lines
-- are.
abbrev pub Headline : (status : ℕ) (old new : Console) → Type 0
Headline status old new =
    ((status ≡ 0) × AllRun old.reader.bytes old.writer.bytes new.writer.bytes)
    ⊎ (((status ≡ 100) × RunsToRefused old new)
    ⊎ ((status ≡ 111) × FirstLinesRun old.reader.bytes new.reader.bytes old.writer.bytes new.writer.bytes))
