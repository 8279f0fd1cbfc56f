-- How a process ended, and the line that says so.
use Rattle.std.specs.Prelude.{◌≡◌, ◌<◌, ◌^◌, ◌==◌, ⊤, ℕ, pos, if◌then◌else◌, List, [], ◌∷◌, ◌++◌, codes, decimal}
use Rattle.std.specs.Prelude.{Option, Some, None}
use Rattle.std.specs.Process.{exit_code, exit_signal}
use Rattle.std.specs.declared.process.status.ExitStatus.{ExitStatus}
use Rattle.tai_status.specs.Label.{Tai64n, IsLabel, label_text}
use Rattle.svc_record.specs.declared.ending.Ending.{Ending}
use Rattle.svc_record.specs.declared.ending.Ending.TheVariants.{Status, Signal, Unknown}
use Rattle.svc_record.specs.declared.exit.Exit.{Exit}

-- How a child ended, by what the system says: its status if it exited, the signal that ended it, or neither.
abbrev pub EndsBy : ExitStatus → Ending → Type 0
EndsBy status (Status code) = exit_code status ≡ Some (pos code)
EndsBy status (Signal number) = (exit_code status ≡ None) × (exit_signal status ≡ Some (pos number))
EndsBy status Unknown = (exit_code status ≡ None) × (exit_signal status ≡ None)

-- the names of Linux's signals, without `SIG`
unfoldable pub signal_name : (number : ℕ) → List ℕ
signal_name number =
    if number == 1 then codes "HUP"
    else if number == 2 then codes "INT"
    else if number == 3 then codes "QUIT"
    else if number == 4 then codes "ILL"
    else if number == 5 then codes "TRAP"
    else if number == 6 then codes "ABRT"
    else if number == 7 then codes "BUS"
    else if number == 8 then codes "FPE"
    else if number == 9 then codes "KILL"
    else if number == 10 then codes "USR1"
    else if number == 11 then codes "SEGV"
    else if number == 12 then codes "USR2"
    else if number == 13 then codes "PIPE"
    else if number == 14 then codes "ALRM"
    else if number == 15 then codes "TERM"
    else if number == 16 then codes "STKFLT"
    else if number == 17 then codes "CHLD"
    else if number == 18 then codes "CONT"
    else if number == 19 then codes "STOP"
    else if number == 20 then codes "TSTP"
    else if number == 21 then codes "TTIN"
    else if number == 22 then codes "TTOU"
    else if number == 23 then codes "URG"
    else if number == 24 then codes "XCPU"
    else if number == 25 then codes "XFSZ"
    else if number == 26 then codes "VTALRM"
    else if number == 27 then codes "PROF"
    else if number == 28 then codes "WINCH"
    else if number == 29 then codes "IO"
    else if number == 30 then codes "PWR"
    else if number == 31 then codes "SYS"
    else []

-- a signal in a line: its name, or its number if it has no name
abbrev pub name_or_number : (name : List ℕ) (number : ℕ) → List ℕ
name_or_number [] number = decimal number
name_or_number (byte ∷ name) number = byte ∷ name

abbrev pub signal_word : (number : ℕ) → List ℕ
signal_word number = name_or_number (signal_name number) number

-- the words for how a process ended
abbrev pub ending_words : Ending → List ℕ
ending_words (Status code) = codes " status " ++ decimal code
ending_words (Signal number) = codes " signal " ++ signal_word number
ending_words Unknown = codes " unknown"

-- the line of a process that ended in this way at this time
abbrev pub exit_text : Exit → List ℕ
exit_text exit =
    decimal exit.pid ++ ending_words exit.ending ++ codes " " ++ label_text exit.label ++ 10 ∷ []

-- The number fits its type.
abbrev pub IsEnding : Ending → Type 0
IsEnding (Status code) = code < 2 ^ 8
IsEnding (Signal number) = number < 2 ^ 8
IsEnding Unknown = ⊤

-- The text is the line of the process with this number that ended in this way at this time.
abbrev pub Says : (text : List ℕ) (pid : ℕ) (label : Tai64n) → Ending → Type 0
Says text pid label ending = text ≡ exit_text (record { pid = pid; ending = ending; label = label })

-- The number, the way to end and the label of an exit fit their types.
pub record IsExit (exit : Exit) : Type 0 where
  pub pid : exit.pid < 2 ^ 32
  pub ending : IsEnding exit.ending
  pub label : IsLabel exit.label

-- what the line of an exit says; None if it is not the line of any exit
abbrev pub Reads : (line : List ℕ) → Option Exit → Type 0
Reads line (Some exit) = line ≡ exit_text exit
Reads line None = (exit : Exit) → IsExit exit → line ≡ exit_text exit → ⊥
