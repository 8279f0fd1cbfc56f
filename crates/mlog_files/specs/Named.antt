-- Labels in the names of old files.
use Rattle.std.specs.Prelude.{ℕ, if◌then◌else◌, List, take, Option, Some, None}
use Rattle.std.specs.List.{fold}
use Rattle.std.specs.Result.{result_ok}
use Rattle.tai_status.specs.Label.{Tai64n, is_earlier}
use Rattle.tai_status.specs.Reading.{from_text}
use Rattle.mlog_files.specs.Files.{Old}

-- The label in a name: the one that its first 25 bytes spell, if they spell one.
abbrev pub label_in : List ℕ → Option Tai64n
label_in name = result_ok (from_text (take 25 name))

-- the later of two labels; one or both may be missing
abbrev pub later_of : Option Tai64n → Option Tai64n → Option Tai64n
later_of None b = b
later_of (Some a) None = Some a
later_of (Some a) (Some b) = if is_earlier a b then Some b else Some a

-- the greatest label in the names of these old files
abbrev pub greatest_label : List Old → Option Tai64n
greatest_label olds = fold (λ best old. later_of best (label_in old.name)) None olds
