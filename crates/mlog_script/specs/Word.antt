-- Actions, as the code has them.
use Rattle.std.specs.Prelude.{◌≡◌, ⊤, false}
use Rattle.star_match.specs.Star.{has_adjacent_stars}
use Rattle.mlog_script.specs.Script.{Act, Stamp, Alert, Size, Keep, Select, Deselect, Status, Log}
use Rattle.mlog_script.specs.declared.word.Said.{Said}
use Rattle.mlog_script.specs.declared.word.Said.TheVariants as said

-- the action of a word that was read
abbrev pub act_said : Said → Act
act_said said.Stamp = Stamp
act_said said.Alert = Alert
act_said (said.Size n) = Size n
act_said (said.Keep n) = Keep n
act_said (said.Select pattern) = Select pattern.now
act_said (said.Deselect pattern) = Deselect pattern.now
act_said (said.Status path) = Status path.now
act_said (said.Log folder) = Log folder.now

-- A pattern has no two adjacent stars.
abbrev pub HasLawfulPattern : Act → Type 0
HasLawfulPattern (Select pattern) = has_adjacent_stars pattern ≡ false
HasLawfulPattern (Deselect pattern) = has_adjacent_stars pattern ≡ false
HasLawfulPattern act = ⊤
