-- The names of faults.
use Rattle.std.specs.Prelude.{ℕ, List, codes}
use Rattle.suite_lines.specs.declared.fault.SuiteLineFault.{SuiteLineFault}
use Rattle.suite_lines.specs.declared.fault.SuiteLineFault.TheVariants as fault

-- the name of the fault of a line
abbrev pub line_fault_name : SuiteLineFault → List ℕ
line_fault_name fault.UnknownEvent = codes "UnknownEvent"
line_fault_name fault.Line = codes "Line"
line_fault_name fault.Number = codes "Number"
line_fault_name fault.Label = codes "Label"
line_fault_name fault.OutOfMemory = codes "OutOfMemory"
