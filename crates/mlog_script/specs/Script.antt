-- What the words of a script ask for, by the multilog page of daemontools (cr.yp.to/daemontools/multilog.html). Words,
-- patterns, paths and folders are lists of bytes.
use Rattle.std.specs.Prelude.{ℕ, ◌+◌, ◌-◌, ◌*◌, ◌==◌, nat_le, nat_lt, Bool, true, false, ◌&&◌, ◌||◌, if◌then◌else◌}
use Rattle.std.specs.Prelude.{List, [], ◌∷◌, length, bytes_eq, fold, unwrap_or, slice_get, Option, Some, None}
use Rattle.std.specs.Prelude.{Result, Ok, Err}
use Rattle.std.specs.Char.{is_ascii_digit}
use Rattle.std.specs.List.{list_any, list_all, filter_map}
use Rattle.std.specs.Option.{option_map}
use Rattle.star_match.specs.Star.{has_adjacent_stars}
use Rattle.mlog_script.specs.Placed.{Placed, placed, last_given}
use Rattle.mlog_script.specs.declared.fault.ScriptFaultKind.{ScriptFaultKind}
use Rattle.mlog_script.specs.declared.fault.ScriptFaultKind.TheVariants.{StampNotFirst, SizeRange, CountRange}
use Rattle.mlog_script.specs.declared.fault.ScriptFaultKind.TheVariants.{BadNumber, Processor, UnknownAction, Pattern}
use Rattle.mlog_script.specs.declared.fault.ScriptFaultKind.TheVariants.{SameLogTwice}
use Rattle.mlog_script.specs.declared.fault.ScriptFault.{ScriptFault}
use Rattle.mlog_script.specs.declared.plan.TheConstants.{DEFAULT_SIZE, DEFAULT_KEEP}
use Rattle.mlog_script.specs.declared.word.TheConstants.{LEAST_SIZE, MOST_SIZE}

-- The action that a word asks for.
pub data Act : Type 0 where
  -- `t`: a stamp is put before each line.
  Stamp : Act
  -- `e`: the selected lines are alerted.
  Alert : Act
  -- `sN`: the files of the logs after it have this size.
  Size : ℕ → Act
  -- `nN`: the logs after it keep this many old files.
  Keep : ℕ → Act
  -- `+pattern`: the lines that match are selected.
  Select : List ℕ → Act
  -- `-pattern`: the lines that match are deselected.
  Deselect : List ℕ → Act
  -- `=path`: this file has the last selected line.
  Status : List ℕ → Act
  -- a word that begins with `.` or `/`: the selected lines go into the log in this folder
  Log : List ℕ → Act

-- Words

-- whether bytes are one digit or more, and nothing else
abbrev pub is_number : List ℕ → Bool
is_number bytes = nat_lt 0 (length bytes) && list_all is_ascii_digit bytes

-- the number of some digits, which may begin with zeros
abbrev pub number : List ℕ → ℕ
number digits = fold (λ n digit. n * 10 + (digit - 48)) 0 digits

-- a number in a range, or what is wrong with it
abbrev pub in_range : List ℕ → ℕ → ℕ → ScriptFaultKind → Result ℕ ScriptFaultKind
in_range digits least most range =
    if is_number digits then
    (if nat_le least (number digits) && nat_le (number digits) most then Ok (number digits) else Err range)
    else Err BadNumber

-- the action that sets a number
abbrev pub sets : (ℕ → Act) → Result ℕ ScriptFaultKind → Result Act ScriptFaultKind
sets act (Ok n) = Ok (act n)
sets act (Err kind) = Err kind

-- an action whose word has no further bytes
abbrev pub alone : Act → List ℕ → Result Act ScriptFaultKind
alone act [] = Ok act
alone act (byte ∷ rest) = Err UnknownAction

-- an action on a pattern
abbrev pub on_pattern : Act → List ℕ → Result Act ScriptFaultKind
on_pattern act pattern = if has_adjacent_stars pattern then Err Pattern else Ok act

-- an action on a path, which must not be empty
abbrev pub on_path : List ℕ → Result Act ScriptFaultKind
on_path [] = Err UnknownAction
on_path (byte ∷ rest) = Ok (Status (byte ∷ rest))

-- the action of a word by itself, or why it has none
abbrev pub said : List ℕ → Result Act ScriptFaultKind
said [] = Err UnknownAction
said (first ∷ rest) =
    if first == 116 then alone Stamp rest
    else (if first == 101 then alone Alert rest
    else (if first == 115 then sets (λ n. Size n) (in_range rest LEAST_SIZE MOST_SIZE SizeRange)
    else (if first == 110 then sets (λ n. Keep n) (in_range rest 2 4294967295 CountRange)
    else (if first == 43 then on_pattern (Select rest) rest
    else (if first == 45 then on_pattern (Deselect rest) rest
    else (if first == 61 then on_path rest
    else (if first == 33 then Err Processor
    else (if first == 46 || first == 47 then Ok (Log (first ∷ rest))
    else Err UnknownAction))))))))

-- Scripts

-- whether a word is among these
unfoldable pub is_among : List (List ℕ) → List ℕ → Bool
is_among words word = list_any (λ other. bytes_eq other word) words

-- a `t` must come first
abbrev pub stamp_fault : List (List ℕ) → Option ScriptFaultKind
stamp_fault [] = None
stamp_fault (word ∷ words) = Some StampNotFirst

-- Why an action is refused after these words: a stamp must come first, and no two logs may have the same folder.
abbrev pub refusal : List (List ℕ) → Act → Option ScriptFaultKind
refusal before Stamp = stamp_fault before
refusal before (Log folder) = if is_among before folder then Some SameLogTwice else None
refusal before act = None

-- the fault of an action, or of a word without one, after these words
abbrev pub fault_in : List (List ℕ) → Result Act ScriptFaultKind → Option ScriptFaultKind
fault_in before (Ok act) = refusal before act
fault_in before (Err kind) = Some kind

-- the fault of a word after these words
abbrev pub fault_of : List (List ℕ) → List ℕ → Option ScriptFaultKind
fault_of before word = fault_in before (said word)

-- the fault of a word, if it is bad; words are counted from 1
abbrev pub fault_at : Placed (List ℕ) → Option ScriptFault
fault_at word =
    option_map (λ kind. record { word = length word.before + 1; kind = kind }) (fault_of word.before word.item)

-- the faults of the words of a script, in order
abbrev pub faults : List (List ℕ) → List ScriptFault
faults words = filter_map fault_at (placed words)

-- the first bad word of a script, which multilog reports
abbrev pub first_fault : List (List ℕ) → Option ScriptFault
first_fault words = slice_get (faults words) 0

-- What multilog needs to run

abbrev pub is_stamp : Act → Bool
is_stamp Stamp = true
is_stamp act = false

abbrev pub is_alert : Act → Bool
is_alert Alert = true
is_alert act = false

abbrev pub is_pattern : Act → Bool
is_pattern (Select pattern) = true
is_pattern (Deselect pattern) = true
is_pattern act = false

abbrev pub is_log : Act → Bool
is_log (Log folder) = true
is_log act = false

abbrev pub is_file : Act → Bool
is_file (Status path) = true
is_file act = false

abbrev pub size_set : Act → Option ℕ
size_set (Size n) = Some n
size_set act = None

abbrev pub keep_set : Act → Option ℕ
keep_set (Keep n) = Some n
keep_set act = None

-- whether an action's number is within its limits, as the number of each word is
abbrev pub is_within_limits : Act → Bool
is_within_limits (Size n) = nat_le LEAST_SIZE n
is_within_limits (Keep n) = nat_le 2 n
is_within_limits act = true

-- the size of a log after these actions: the last size that they set, or the default
abbrev pub size_after : List Act → ℕ
size_after acts = unwrap_or (last_given size_set acts) DEFAULT_SIZE

-- how many old files a log after these actions keeps: the last number that they set, or the default
abbrev pub keep_after : List Act → ℕ
keep_after acts = unwrap_or (last_given keep_set acts) DEFAULT_KEEP

-- A log: its folder, its size, and how many old files it keeps.
pub record Plan : Type 0 where
  pub folder : List ℕ
  pub size : ℕ
  pub keep : ℕ

abbrev pub plan_behind : List Act → Act → Option Plan
plan_behind before (Log folder) =
    Some (record { folder = folder; size = size_after before; keep = keep_after before })
plan_behind before act = None

-- the logs of a script, in order
abbrev pub log_plans : List Act → List Plan
log_plans script = filter_map (λ act. plan_behind act.before act.item) (placed script)

abbrev pub path_of : Act → Option (List ℕ)
path_of (Status path) = Some path
path_of act = None

-- the paths of the status files of a script, in order
abbrev pub file_paths : List Act → List (List ℕ)
file_paths script = filter_map path_of script
