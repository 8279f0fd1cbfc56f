-- The names and texts of faults.
use Rattle.std.specs.Prelude.{◌≡◌, ℕ, List, ◌++◌, codes, decimal}
use Rattle.mlog_script.specs.declared.fault.ScriptFault.{ScriptFault}
use Rattle.mlog_script.specs.declared.fault.ScriptFaultKind.{ScriptFaultKind}
use Rattle.mlog_script.specs.declared.fault.ScriptFaultKind.TheVariants as kind

-- the name of what is wrong with a word
abbrev pub kind_name : ScriptFaultKind → List ℕ
kind_name kind.StampNotFirst = codes "StampNotFirst"
kind_name kind.SizeRange = codes "SizeRange"
kind_name kind.CountRange = codes "CountRange"
kind_name kind.BadNumber = codes "BadNumber"
kind_name kind.Processor = codes "Processor"
kind_name kind.UnknownAction = codes "UnknownAction"
kind_name kind.Pattern = codes "Pattern"
kind_name kind.SameLogTwice = codes "SameLogTwice"
kind_name kind.OutOfMemory = codes "OutOfMemory"

-- the word that is wrong, and why
abbrev pub script_fault_text : ScriptFault → List ℕ
script_fault_text fault = codes "word " ++ (decimal fault.word ++ (codes ": " ++ kind_name fault.kind))

-- The allocator refused memory.
abbrev pub IsWantOfMemory : ScriptFault → Type 0
IsWantOfMemory fault = fault.kind ≡ kind.OutOfMemory
