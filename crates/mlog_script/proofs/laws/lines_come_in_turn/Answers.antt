use Rattle.std.proofs.Common.{◌∙◌, ap, List, ℕ, fold}
use Rattle.std.proofs.lemmas.List.Sums.{fold-append}
use Rattle.mlog_script.specs.Selection.{to_log, to_alerts, to_file, file_contents}
use Rattle.mlog_script.proofs.Texts.{comes_in_turn}
use Rattle.mlog_script.proofs.laws.lines_come_in_turn.Goals as goal

pub returns-clause-logs : goal.returns-clause-logs
returns-clause-logs c = λ script log. comes_in_turn (to_log script log)

pub returns-clause-alerts : goal.returns-clause-alerts
returns-clause-alerts c = λ script. comes_in_turn (to_alerts script)

pub returns-clause-files : goal.returns-clause-files
returns-clause-files c = λ script file. comes_in_turn (to_file script file)

pub returns-clause-content : goal.returns-clause-content
returns-clause-content c = λ script file before labels more lines rest whole each.
    ap (fold (λ (old new : List ℕ). new) before) (comes_in_turn (to_file script file) labels more lines rest whole each)
    ∙ fold-append (λ (old new : List ℕ). new) before (file_contents script file labels lines)
    (file_contents script file more rest)
