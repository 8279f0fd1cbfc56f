-- What `multilog` reports about its faults.
use Rattle.std.specs.Prelude.{ℕ, List, [], ◌∷◌, ◌++◌, codes, decimal}
use Rattle.mlog_script.specs.declared.fault.ScriptFaultKind.{ScriptFaultKind}
use Rattle.mlog_script.specs.declared.fault.ScriptFaultKind.TheVariants as kind
use Rattle.mlog_script.specs.declared.fault.ScriptFault.{ScriptFault}
use Rattle.mlog_script.specs.Named.{kind_name}
use Rattle.tai_status.specs.Causes.{cause_words}
use Rattle.tai_status.specs.declared.cause.Cause.{Cause}
use Rattle.tai_status.specs.declared.cause.Cause.TheVariants as cause
use Rattle.cmd_multilog.specs.declared.fault.StoreCall.{StoreCall}
use Rattle.cmd_multilog.specs.declared.fault.StoreCall.TheVariants as call
use Rattle.cmd_multilog.specs.declared.fault.StoreTrouble.{StoreTrouble}

-- what is reported about a fault of the script; and the exit status for that
abbrev pub script_report : ScriptFault → List ℕ
script_report fault = codes "multilog: word "
    ++ (decimal fault.word ++ (codes ": " ++ (kind_name fault.kind ++ 10 ∷ [])))

abbrev pub kind_status : ScriptFaultKind → ℕ
kind_status kind.StampNotFirst = 100
kind_status kind.SizeRange = 100
kind_status kind.CountRange = 100
kind_status kind.BadNumber = 100
kind_status kind.Processor = 100
kind_status kind.UnknownAction = 100
kind_status kind.Pattern = 100
kind_status kind.SameLogTwice = 100
kind_status kind.OutOfMemory = 111

abbrev pub script_status : ScriptFault → ℕ
script_status fault = kind_status fault.kind

-- what is reported if there is no memory
abbrev pub memory_report : List ℕ
memory_report = codes "multilog: OutOfMemory" ++ 10 ∷ []

-- why a log can't be opened, in words; the call that would wait is the one for the lock
abbrev pub open_words : Cause → List ℕ
open_words cause.NoThread = codes "locked by another process"
open_words other = cause_words other

-- the same, as it is reported after its folder
abbrev pub open_note : Cause → List ℕ
open_note why = codes ": " ++ open_words why ++ 10 ∷ []

-- what is reported about a log that can't be opened
abbrev pub unopened_report : (folder : List ℕ) → Cause → List ℕ
unopened_report folder why = codes "multilog: unable to open " ++ (folder ++ open_note why)

-- what a call of the store was to do, as it is reported before the object of the call
abbrev pub call_words : StoreCall → List ℕ
call_words (call.Append log) = codes "multilog: Store: unable to write "
call_words (call.Finish log) = codes "multilog: Store: unable to finish "
call_words (call.Remove log) = codes "multilog: Store: unable to remove an old file of "
call_words (call.Status file) = codes "multilog: Store: unable to write "
call_words call.Alert = codes "multilog: Store: unable to write "

-- the file of a log that a call is about, after its folder
abbrev pub where_in : StoreCall → List ℕ
where_in (call.Append log) = codes "/current"
where_in (call.Finish log) = codes "/current"
where_in other = []

-- why a call failed, as it is reported after the object of the call
abbrev pub store_note : StoreTrouble → List ℕ
store_note trouble = where_in trouble.call ++ codes ": " ++ cause_words trouble.cause ++ 10 ∷ []
