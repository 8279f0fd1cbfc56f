-- Actions with bytes of their own, as the code has them.
use Rattle.std.specs.Prelude.{◌≡◌, ◌≤◌, ℕ, false, List, length, map, take, count_by, Result, Ok}
use Rattle.mlog_script.specs.Script.{Act, Stamp, Alert, Size, Keep, Select, Deselect, Status, Log}
use Rattle.mlog_script.specs.Script.{is_alert, is_log, is_file}
use Rattle.mlog_script.specs.declared.fault.ScriptFaultKind.{ScriptFaultKind}
use Rattle.mlog_script.specs.declared.action.Action.{Action}
use Rattle.mlog_script.specs.declared.action.Action.TheVariants as code

abbrev pub act : {A : Type 0} → Action A → Act
act code.Stamp = Stamp
act code.Alert = Alert
act (code.Size n) = Size n
act (code.Keep n) = Keep n
act (code.Select pattern) = Select pattern
act (code.Deselect pattern) = Deselect pattern
act (code.Status path) = Status path.items
act (code.Log folder) = Log folder.items

-- The action sends no line to an alert, a log or a status file.
abbrev pub HasNoOutput : Act → Type 0
HasNoOutput a = (is_alert a ≡ false) × (is_log a ≡ false) × (is_file a ≡ false)

-- The first n actions send no line to an alert, a log or a status file.
pub record AreQuiet (n : ℕ) (acts : List Act) : Type 0 where
  pub within : n ≤ length acts
  pub alerts : count_by is_alert (take n acts) ≡ 0
  pub logs : count_by is_log (take n acts) ≡ 0
  pub files : count_by is_file (take n acts) ≡ 0

-- the actions that words ask for, in the form of `said`
abbrev pub asked_by : {A : Type 0} → List (Action A) → List (Result Act ScriptFaultKind)
asked_by actions = map (λ action. Ok (act action)) actions
