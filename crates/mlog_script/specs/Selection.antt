-- Which lines a script selects, and what they give, by the multilog page of daemontools
-- (cr.yp.to/daemontools/multilog.html). Lines here have no newline.
use Rattle.std.specs.Prelude.{◌≡◌, ℕ, ◌-◌, ◌==◌, Bool, true, false, if◌then◌else◌, List, [], ◌∷◌, ◌++◌, length, take}
use Rattle.std.specs.Prelude.{replicate, fold, count_by, unwrap_or, slice_get, Option, Some, None}
use Rattle.std.specs.List.{list_any, filter_map, flat_map}
use Rattle.star_match.specs.Star.{star_matches}
use Rattle.tai_status.specs.Label.{Tai64n}
use Rattle.tai_status.specs.Lines.{stamp, texts_of, Sent, sent}
use Rattle.mlog_script.specs.Placed.{Placed, placed, last_given}
use Rattle.mlog_script.specs.Script.{Act, Select, Deselect, is_stamp, is_alert, is_log, is_file}

-- Patterns

-- A pattern that matches a line's front, which is its first bytes, decides whether the line is selected.
abbrev pub decision : List ℕ → Act → Option Bool
decision front (Select pattern) = if star_matches pattern front then Some true else None
decision front (Deselect pattern) = if star_matches pattern front then Some false else None
decision front act = None

-- whether a line with this front is selected after these actions: as the last of them that decides says, or yes if none
-- decides
abbrev pub is_chosen : List Act → List ℕ → Bool
is_chosen before front = unwrap_or (last_given (decision front) before) true

-- whether a line with this front is selected at an action, if the action passes a test
abbrev pub choice : (Act → Bool) → List ℕ → Placed Act → Option Bool
choice test front act = if test act.item then Some (is_chosen act.before front) else None

-- the same, for each action of a script that passes a test, in order
abbrev pub choices : (Act → Bool) → List Act → List ℕ → List Bool
choices test script front = filter_map (choice test front) (placed script)

-- Whether a line is selected at each alert, log and status file, in the order of the script.
pub record Chosen : Type 0 where
  pub alerts : List Bool
  pub logs : List Bool
  pub files : List Bool

abbrev pub chosen : List Act → List ℕ → Chosen
chosen script front = record {
  alerts = choices is_alert script front;
  logs = choices is_log script front;
  files = choices is_file script front;
}

-- There is a flag for each alert, log and status file of a script.
pub record Fits (given : Chosen) (script : List Act) : Type 0 where
  pub alerts_fit : length given.alerts ≡ count_by is_alert script
  pub logs_fit : length given.logs ≡ count_by is_log script
  pub files_fit : length given.files ≡ count_by is_file script

-- Lines

-- whether lines get a stamp
abbrev pub stamps : List Act → Bool
stamps script = list_any is_stamp script

-- a line as the actions see it
abbrev pub shown : List Act → Tai64n → List ℕ → List ℕ
shown script label line = if stamps script then stamp label ++ line else line

-- the outputs at which a line is selected: patterns see its first 1000 bytes
abbrev pub chosen_line : List Act → Tai64n → List ℕ → Chosen
chosen_line script label line = chosen script (take 1000 (shown script label line))

-- the flag with this number, counted from 0
abbrev pub flag_at : List Bool → ℕ → Bool
flag_at flags n = unwrap_or (slice_get flags n) false

-- what a line adds to a log: the whole line and a newline, if it is selected there
abbrev pub to_log : List Act → ℕ → Tai64n → List ℕ → List Sent
to_log script log label line =
    if flag_at (chosen_line script label line).logs log then sent label (shown script label line ++ 10 ∷ []) else []

-- the alert for a line: its first 200 bytes and a newline
abbrev pub alert : List ℕ → List ℕ
alert line = take 200 line ++ 10 ∷ []

-- what a line adds to the alerts: one alert for each place at which it is selected
abbrev pub to_alerts : List Act → Tai64n → List ℕ → List ℕ
to_alerts script label line =
    flat_map (λ flag. if flag then alert (shown script label line) else []) (chosen_line script label line).alerts

-- the first 1000 bytes of a line, and newlines after them, 1001 bytes in all
abbrev pub padded : List ℕ → List ℕ
padded line = take 1000 line ++ replicate (1001 - length (take 1000 line)) 10

-- the content that a line gives to a status file, if it is selected there
abbrev pub to_file : List Act → ℕ → Tai64n → List ℕ → List (List ℕ)
to_file script file label line =
    if flag_at (chosen_line script label line).files file then padded (shown script label line) ∷ [] else []

-- Texts

-- what lines give, one after another, each with its label; a line without a label is left out
abbrev pub by_line : {X : Type 0} → (Tai64n → List ℕ → List X) → List Tai64n → List (List ℕ) → List X
by_line work labels [] = []
by_line work [] (line ∷ lines) = []
by_line work (label ∷ labels) (line ∷ lines) = work label line ++ by_line work labels lines

-- the text of a log
abbrev pub log_text : List Act → ℕ → List Tai64n → List ℕ → List Sent
log_text script log labels bytes = by_line (to_log script log) labels (texts_of bytes)

-- the text of the alerts
abbrev pub alert_text : List Act → List Tai64n → List ℕ → List ℕ
alert_text script labels bytes = by_line (to_alerts script) labels (texts_of bytes)

-- the contents that a status file is given, in order
abbrev pub file_contents : List Act → ℕ → List Tai64n → List ℕ → List (List ℕ)
file_contents script file labels bytes = by_line (to_file script file) labels (texts_of bytes)

-- the content of a status file: the last one that it is given, or the old content if it is given none
abbrev pub file_content : List Act → ℕ → List ℕ → List Tai64n → List ℕ → List ℕ
file_content script file before labels bytes = fold (λ old new. new) before (file_contents script file labels bytes)

-- whether bytes are whole lines
abbrev pub is_whole : List ℕ → Bool
is_whole [] = true
is_whole (x ∷ []) = x == 10
is_whole (x ∷ y ∷ ys) = is_whole (y ∷ ys)

-- Whole lines and further bytes give what the lines give, followed by what the bytes give.
abbrev pub ComesInTurn : {X : Type 0} → (List Tai64n → List ℕ → List X) → Type 0
ComesInTurn text = (labels more : List Tai64n) (lines rest : List ℕ)
    → is_whole lines ≡ true → length labels ≡ length (texts_of lines)
    → text (labels ++ more) (lines ++ rest) ≡ text labels lines ++ text more rest

-- A status file continues from the content that the lines before left.
abbrev pub ContentGoesOn : Type 0
ContentGoesOn = (script : List Act) (file : ℕ) (before : List ℕ) (labels more : List Tai64n) (lines rest : List ℕ)
    → is_whole lines ≡ true → length labels ≡ length (texts_of lines)
    → file_content script file before (labels ++ more) (lines ++ rest)
    ≡ file_content script file (file_content script file before labels lines) more rest
