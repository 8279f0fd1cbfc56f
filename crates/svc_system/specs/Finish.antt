-- The words with which the `finish` of a service is run. They are those of runit (runsv(8)).
use Rattle.std.specs.Prelude.{ℕ, List, codes, decimal}
use Rattle.svc_record.specs.declared.ending.Ending.{Ending}
use Rattle.svc_record.specs.declared.ending.Ending.TheVariants.{Status, Signal}

-- the first word: the exit status of the service's process, or -1 if it did not exit
abbrev pub status_word : Ending → List ℕ
status_word (Status number) = decimal number
status_word other = codes "-1"

-- the second word: the number of the signal that ended the process, or 0
abbrev pub signal_word : Ending → List ℕ
signal_word (Signal number) = decimal number
signal_word other = codes "0"
