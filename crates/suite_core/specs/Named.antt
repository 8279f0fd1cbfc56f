-- The texts of faults.
use Rattle.std.specs.Prelude.{ℕ, List, ◌++◌, codes, decimal}
use Rattle.scan_table.specs.Named.{scan_fault_name}
use Rattle.suite_core.specs.declared.fault.StepFault.{StepFault}
use Rattle.suite_core.specs.declared.fault.StepFault.TheVariants as fault
use Rattle.suite_core.specs.declared.fault.SuiteFault.{SuiteFault}

-- the name of the fault of an event that was not taken
abbrev pub step_fault_name : StepFault → List ℕ
step_fault_name fault.NoSuchPart = codes "NoSuchPart"
step_fault_name (fault.Scan why) = scan_fault_name why
step_fault_name fault.OutOfMemory = codes "OutOfMemory"

-- the event at which a run ended, and the reason
abbrev pub suite_fault_text : SuiteFault → List ℕ
suite_fault_text why = codes "event " ++ (decimal why.place ++ (codes ": " ++ step_fault_name why.fault))
