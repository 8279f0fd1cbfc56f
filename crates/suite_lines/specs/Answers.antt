-- The result of reading a suite event's line.
use Rattle.std.specs.Prelude.{◌≡◌, Result, Ok, Err, MatchResult}
use Rattle.sup_core.specs.declared.reading.EventFault.{EventFault}
use Rattle.sup_core.specs.declared.reading.EventFault.TheVariants as why
use Rattle.suite_lines.specs.declared.event.SuiteEvent.{SuiteEvent}
use Rattle.suite_lines.specs.declared.event.SuiteEvent.TheVariants.{Scan, At}
use Rattle.suite_lines.specs.declared.fault.SuiteLineFault.{SuiteLineFault}
use Rattle.suite_lines.specs.declared.fault.SuiteLineFault.TheVariants as fault

-- a fault of an event's line, as a fault of a suite's line
abbrev pub line_fault : EventFault → SuiteLineFault
line_fault why.UnknownEvent = fault.UnknownEvent
line_fault why.Line = fault.Line
line_fault why.Number = fault.Number
line_fault why.Label = fault.Label

-- An event is read, or memory runs out.
abbrev pub ReadsIfMemory : {A : Type 0} → SuiteEvent A → Result (SuiteEvent A) SuiteLineFault → Type 0
ReadsIfMemory event answer = MatchResult answer (λ read. read ≡ event) (λ why. why ≡ fault.OutOfMemory)

-- A line is read as the event that it spells, or its first fault is returned. Memory can run out only at a valid scan.
abbrev pub IsRead : {A : Type 0} → Result (SuiteEvent A) EventFault → Result (SuiteEvent A) SuiteLineFault → Type 0
IsRead (Ok (Scan rows label)) answer = ReadsIfMemory (Scan rows label) answer
IsRead (Ok (At part event)) answer = answer ≡ Ok (At part event)
IsRead (Err why) answer = answer ≡ Err (line_fault why)
