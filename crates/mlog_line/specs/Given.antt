-- What lines give to the logs, the alerts and the status files of a script.
use Rattle.std.specs.Prelude.{ℕ, ◌==◌, nat_lt, nat_le, map, if◌then◌else◌, List, [], ◌∷◌, ◌++◌, length, Bool}
use Rattle.std.specs.List.{flat_map}
use Rattle.tai_status.specs.Label.{Tai64n}
use Rattle.tai_status.specs.Lines.{Sent, sent}
use Rattle.mlog_script.specs.Script.{Act}
use Rattle.mlog_script.specs.Selection.{shown, chosen, chosen_line, padded, flag_at, to_log, to_alerts, to_file}
use Rattle.mlog_script.specs.Selection.{alert, log_text, alert_text, file_contents}

-- What is given: the text for each log, the text that is alerted, and the contents for each status file, in order.
pub record Given : Type 0 where
  pub logs : ℕ → List Sent
  pub alerts : List ℕ
  pub files : ℕ → List (List ℕ)

abbrev pub nothing : Given
nothing = record { logs = λ log. []; alerts = []; files = λ file. [] }

-- the first, followed by the second
abbrev pub joined : Given → Given → Given
joined a b = record {
  logs = λ log. a.logs log ++ b.logs log;
  alerts = a.alerts ++ b.alerts;
  files = λ file. a.files file ++ b.files file;
}

-- what a line gives
abbrev pub of_line : List Act → Tai64n → List ℕ → Given
of_line script label line = record {
  logs = λ log. to_log script log label line;
  alerts = to_alerts script label line;
  files = λ file. to_file script file label line;
}

-- what a text gives, if its lines have these labels
abbrev pub of_text : List Act → List Tai64n → List ℕ → Given
of_text script labels text = record {
  logs = λ log. log_text script log labels text;
  alerts = alert_text script labels text;
  files = λ file. file_contents script file labels text;
}

-- what a line that is decided, and has not ended, has given: in the logs its newline is still missing
abbrev pub of_front : List Act → Tai64n → List ℕ → Given
of_front script label line = record {
  logs = λ log. if flag_at (chosen_line script label line).logs log then sent label (shown script label line) else [];
  alerts = to_alerts script label line;
  files = λ file. to_file script file label line;
}

-- What a line that has not ended has given: nothing, until its first 1000 bytes are there and decide.
abbrev pub so_far : List Act → Tai64n → List ℕ → Given
so_far script label line =
    if nat_le 1000 (length (shown script label line)) then of_front script label line else nothing

-- bytes of a line, given to the logs at which it is selected
abbrev pub to_logs : List Bool → Tai64n → List ℕ → Given
to_logs chosen label bytes = record {
  logs = λ log. if flag_at chosen log then sent label bytes else [];
  alerts = [];
  files = λ file. [];
}

-- a text, given to one log
abbrev pub to_one : ℕ → List Sent → Given
to_one log text = record { logs = λ other. if other == log then text else []; alerts = []; files = λ file. [] }

-- bytes of a line, given to one log if it is selected there
abbrev pub to_one_if : Bool → ℕ → Tai64n → List ℕ → Given
to_one_if is_chosen log label bytes = to_one log (if is_chosen then sent label bytes else [])

-- one alert for each flag that is set
abbrev pub alerts_for : List Bool → List ℕ → List ℕ
alerts_for chosen line = flat_map (λ flag. if flag then alert line else []) chosen

-- what a line gives when its front is decided, and this text is put into its logs
abbrev pub of_put : List Act → Tai64n → List ℕ → List ℕ → Given
of_put script label front text = record {
  logs = λ log. if flag_at (chosen script front).logs log then sent label text else [];
  alerts = alerts_for (chosen script front).alerts front;
  files = λ file. if flag_at (chosen script front).files file then padded front ∷ [] else [];
}

-- the same, with the front as the text
abbrev pub of_chosen : List Act → Tai64n → List ℕ → Given
of_chosen script label front = of_put script label front front

-- a text, given to each log below a number
abbrev pub to_first : ℕ → List Sent → Given
to_first count text = record { logs = λ log. if nat_lt log count then text else []; alerts = []; files = λ file. [] }

-- the bytes of a text
abbrev pub bytes_of : List Sent → List ℕ
bytes_of text = map (λ s. s.byte) text
