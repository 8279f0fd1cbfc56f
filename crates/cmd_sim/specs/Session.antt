-- What a session does, after any earlier input and output. No public contract names these definitions.
use Rattle.std.specs.Prelude.{◌≤◌, ℕ, List, ◌++◌, length, Option}
use Rattle.std.specs.Io.KnownBytes.{IsAtEnd}
use Rattle.tai_status.specs.Counted.{Device, WroteFront}
use Rattle.cmd_sim.specs.declared.session.Session.{Session}
use Rattle.cmd_sim.specs.declared.fault.Why.{Why}
use Rattle.cmd_sim.specs.Sim.{Past, said, at_line, IsOfSuite, MissesAt, AnswersWhole, AnswersBefore, AnswersPart}
use Rattle.cmd_sim.specs.Sim.{ReadsNear}
use Rattle.cmd_sim.specs.Progress.{Stands, Answered, SoFar, text_said}

module _ {A : Type 0} where
  -- A line has its answer, which waits after the answers that wait already.
  abbrev pub AnswersLine : (line : List ℕ) (writer : Device) (old : Session A)
      (written : Device) (new : Session A) → Type 0
  AnswersLine line writer old written new =
      (past : Past) → Stands past old.subject
      → Answered past line new.subject writer.bytes written.bytes old.waiting new.waiting

  -- A prefix of the answers that wait, followed by the answer to this line, is written.
  abbrev pub WritesFrontWith : (line : List ℕ) (writer : Device) (old : Session A) (written : Device) → Type 0
  WritesFrontWith line writer old written =
      (past : Past) → Stands past old.subject → WroteFront writer written (old.waiting ++ text_said (said past line))

  -- how far the session has come, given what the writer holds and with these bytes pending
  abbrev pub HasCome : (before now held : Option (List ℕ)) (writer : Device) (pending : List ℕ) → Session A → Type 0
  HasCome before now held writer pending session =
      SoFar before now held writer.bytes pending session.waiting session.subject session.count

  -- From each state of the session, it has come further.
  abbrev pub GoesOn : (writer : Device) (pending : List ℕ) (old : Session A)
      (written : Device) (left : List ℕ) (new : Session A) → Type 0
  GoesOn writer pending old written left new =
      (before now held : Option (List ℕ)) → HasCome before now held writer pending old
      → HasCome before now held written left new

  -- The line with this number is the first one that is refused, and the answer to each line before it is written.
  abbrev pub RefusesAt : (number : ℕ) (why : Why) (writer : Device) (pending : List ℕ) (old : Session A)
      (written : Device) → Type 0
  RefusesAt number why writer pending old written =
      (before now held : Option (List ℕ)) → HasCome before now held writer pending old
      → AnswersBefore before held written.bytes (at_line number why)

  -- The same, if the input has ended.
  abbrev pub RefusesLast : (number : ℕ) (why : Why) (writer : Device) (pending : List ℕ) (old : Session A)
      (written : Device) → Type 0
  RefusesLast number why writer pending old written =
      (before now held : Option (List ℕ)) → HasCome before now held writer pending old
      → IsAtEnd now → AnswersBefore before held written.bytes (at_line number why)

  -- No more is read than the line with this number and one block, if no more is pending.
  abbrev pub ReadsUpTo : (number : ℕ) (writer : Device) (pending : List ℕ) (old : Session A) → Type 0
  ReadsUpTo number writer pending old =
      (before now held : Option (List ℕ)) → HasCome before now held writer pending old
      → length pending ≤ 98304 → ReadsNear before now number

  -- A prefix of the answer to what was read is written.
  abbrev pub LeavesFront : (writer : Device) (pending : List ℕ) (old : Session A) (written : Device) → Type 0
  LeavesFront writer pending old written =
      (before now held : Option (List ℕ)) → HasCome before now held writer pending old
      → AnswersPart before now held written.bytes

  -- Memory ran out at a line of a suite, and the answer to each line before it is written.
  abbrev pub MissesMemory : (writer : Device) (pending : List ℕ) (old : Session A) (written : Device) → Type 0
  MissesMemory writer pending old written =
      (before now held : Option (List ℕ)) → HasCome before now held writer pending old
      → IsOfSuite before × MissesAt before now held written.bytes

  -- The same, if the input has ended.
  abbrev pub MissesLast : (writer : Device) (pending : List ℕ) (old : Session A) (written : Device) → Type 0
  MissesLast writer pending old written =
      (before now held : Option (List ℕ)) → HasCome before now held writer pending old
      → IsAtEnd now → IsOfSuite before × MissesAt before now held written.bytes

  -- If the input has ended, the answer to all of it is written.
  abbrev pub AnswersToEnd : (writer : Device) (pending : List ℕ) (old : Session A) (written : Device) → Type 0
  AnswersToEnd writer pending old written =
      (before now held : Option (List ℕ)) → HasCome before now held writer pending old
      → IsAtEnd now → AnswersWhole before held written.bytes
