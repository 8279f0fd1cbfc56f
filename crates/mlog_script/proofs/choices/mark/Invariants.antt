use Rattle.std.proofs.Common.{◌≡◌, ◌≤◌, take, map, count_by}
use Rattle.std.specs.Prelude.{vec_capacity}
use Rattle.mlog_script.specs.Script.{is_alert, is_log, is_file}
use Rattle.mlog_script.specs.Selection.{is_chosen, choices}
use Rattle.mlog_script.specs.Action.{act}
use Rattle.mlog_script.proofs.choices.mark.Given as goal

abbrev pub invariant-loop-place : goal.invariant-loop-place
invariant-loop-place g l = record {
  asked_before : l.asked ≤ l.place;
  chosen_is : l.chosen ≡ is_chosen (map act (take l.asked l.actions)) l.front;
  alerts_are : l.marks.alerts.items ≡ choices is_alert (map act (take l.place l.actions)) l.front;
  logs_are : l.marks.logs.items ≡ choices is_log (map act (take l.place l.actions)) l.front;
  files_are : l.marks.files.items ≡ choices is_file (map act (take l.place l.actions)) l.front;
  alerts_fit : count_by is_alert (map act l.actions) ≤ vec_capacity l.marks.alerts;
  logs_fit : count_by is_log (map act l.actions) ≤ vec_capacity l.marks.logs;
  files_fit : count_by is_file (map act l.actions) ≤ vec_capacity l.marks.files;
}
