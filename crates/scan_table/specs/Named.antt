-- The names of faults.
use Rattle.std.specs.Prelude.{ℕ, List, codes}
use Rattle.scan_table.specs.declared.fault.ScanFault.{ScanFault}
use Rattle.scan_table.specs.declared.fault.ScanFault.TheVariants as fault

-- the name of a reason to refuse a scan
abbrev pub scan_fault_name : ScanFault → List ℕ
scan_fault_name (fault.Unsorted place) = codes "Unsorted"
scan_fault_name (fault.Twice place) = codes "Twice"
scan_fault_name fault.Exhausted = codes "Exhausted"
scan_fault_name fault.OutOfMemory = codes "OutOfMemory"
