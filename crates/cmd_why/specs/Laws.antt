-- What is true for the definitions alone.
use Rattle.std.specs.Prelude.{◌≡◌, ◌≤◌, ℕ, Bool, true, false, List, ◌∷◌, ◌++◌, Option, Some, None}
use Rattle.std.specs.List.{list_any}
use Rattle.tai_status.specs.Label.{Tai64n, nanoseconds}
use Rattle.tai_status.specs.Record.{Status}
use Rattle.sup_core.specs.declared.event.Event.{Event}
use Rattle.sup_core.specs.declared.event.Event.TheVariants.{Byte}
use Rattle.sup_trace.specs.Content.{Content}
use Rattle.svc_record.specs.declared.ending.Ending.{Ending}
use Rattle.svc_record.specs.declared.exit.Exit.{Exit}
use Rattle.cmd_why.specs.declared.entries.Kind.TheVariants.{Start, Signal}
use Rattle.cmd_why.specs.declared.facts.EndedProcess.{EndedProcess}
use Rattle.cmd_why.specs.declared.facts.Facts.{Facts}
use Rattle.cmd_why.specs.declared.last_ends.LastEnd.{LastEnd}
use Rattle.cmd_why.specs.declared.last_ends.LastEnd.TheVariants.{Traced}
use Rattle.cmd_why.specs.Entries.{behind_last, is_of}
use Rattle.cmd_why.specs.Facts.{facts_of}
use Rattle.cmd_why.specs.LastEnd.{ended_in, last_end, time_of_end}

-- Signals

-- This one is in a list and passes a test, and none after it passes.
pub record IsLast {X : Type 0} (test : X → Bool) (xs : List X) (x : X) : Type 0 where
  pub before : List X
  pub after : List X
  pub is : xs ≡ before ++ x ∷ after
  pub passes : test x ≡ true
  pub last : list_any test after ≡ false

-- the entries after the last start
abbrev pub since_start : Content → List Event
since_start content = behind_last Start content.entries

-- The signal that a process got is that of the last control byte with a signal since its start.
abbrev pub NamesTheLastSignal : Type 0
NamesTheLastSignal = (content : Content) (status : Status) (now : Tai64n) (byte : ℕ)
    → (facts_of content status now).sent ≡ Some byte → IsLast (is_of Signal) (since_start content) (Byte byte)

-- If no signal is named, there was none since the start.
abbrev pub NamesEachSignal : Type 0
NamesEachSignal = (content : Content) (status : Status) (now : Tai64n)
    → (facts_of content status now).sent ≡ None → list_any (is_of Signal) (since_start content) ≡ false

-- Ends

-- No end that is known is later than the last end.
abbrev pub LastEndIsLatest : Type 0
LastEndIsLatest = (facts : Option Facts) (exit : Exit) (end : LastEnd) → last_end facts (Some exit) ≡ Some end
    → (nanoseconds exit.label ≤ nanoseconds (time_of_end end))
    × ((ended : EndedProcess) → ended_in facts ≡ Some ended
    → nanoseconds ended.label ≤ nanoseconds (time_of_end end))

-- How a process ended is what the file `exit` says about this process and this time.
pub record IsItsOwn (exit : Exit) (ended : EndedProcess) (ending : Ending) : Type 0 where
  pub pid : exit.pid ≡ ended.pid
  pub label : exit.label ≡ ended.label
  pub ending_is : exit.ending ≡ ending

abbrev pub EndsAreTheirOwn : Type 0
EndsAreTheirOwn = (facts : Option Facts) (exit : Option Exit) (ended : EndedProcess) (ending : Ending)
    → last_end facts exit ≡ Some (Traced ended (Some ending))
    → (line : Exit) × (exit ≡ Some line) × IsItsOwn line ended ending
