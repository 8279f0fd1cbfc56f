-- The counts of all logs.
use Rattle.std.proofs.Common.{◌≡◌, ℕ, suc, ◌+◌, ◌-◌, ◌^◌, ◌<◌, min, count_by, fold, List, [], ◌∷◌, length, Option, Some}
use Rattle.std.proofs.Common.{None, subst, ap, ◌∙◌, arith}
use Rattle.std.specs.Prelude.{slice_get, IfSome}
use Rattle.tai_status.specs.Label.{Tai64n}
use Rattle.tai_status.specs.Lines.{Sent}
use Rattle.mlog_script.specs.Script.{Act, Plan, log_plans}
use Rattle.mlog_script.specs.Selection.{log_text}
use Rattle.mlog_files.specs.Files.{is_finish, is_remove}
use Rattle.mlog_files.specs.Going.{Standing}
use Rattle.mlog_files.specs.Laws.{CountsSteps}
use Rattle.mlog_files.proofs.Counting.{text_counts}
use Rattle.mlog_core.specs.Run.{planned_steps, log_steps, IsEnd}
use Rattle.mlog_core.specs.Laws.{total_below, CountsAllSteps}

-- Each state of a log has a count.
abbrev Each : (Standing → ℕ) → List Standing → (ℕ → ℕ) → Type 0
Each mark ends each = (log : ℕ) → IfSome (slice_get ends log) (λ end. mark end ≡ min (2 ^ 64 - 1) (each log))

sum_from : (mark : Standing → ℕ) (ends : List Standing) (each : ℕ → ℕ) (start : ℕ) → start < 2 ^ 64
    → Each mark ends each
    → fold (λ (total : ℕ) (end : Standing). min (2 ^ 64 - 1) (total + mark end)) start ends
    ≡ min (2 ^ 64 - 1) (start + total_below (length ends) each)
sum_from mark [] each start low marks = omega (arith, low)
sum_from mark (end ∷ ends) each start low marks =
    let here : mark end ≡ min (2 ^ 64 - 1) (each 0) = marks 0 in
    let now : ℕ = min (2 ^ 64 - 1) (start + mark end) in
    let later = sum_from mark ends (λ log. each (log + 1)) now (omega arith)
    (λ log. subst (λ (n : ℕ). IfSome (slice_get ends log) (λ e. mark e ≡ min (2 ^ 64 - 1) (each n))) (let s : suc log
    ≡ log + 1 = omega arith in s) (marks (suc log))) in
    let rest = total_below (length ends) (λ log. each (log + 1)) in
    later ∙ (let sums : min (2 ^ 64 - 1) (min (2 ^ 64 - 1) (start + mark end) + rest)
    ≡ min (2 ^ 64 - 1) (start + (each 0 + rest)) = omega (arith, here, low) in sums)

from_none : (total : ℕ) → min (2 ^ 64 - 1) (0 + total) ≡ min (2 ^ 64 - 1) total
from_none total = omega arith

plan_counts : (plan : Option Plan) (stood : Standing) (text : List Sent) (end : Standing) → (stood.marks.finished ≡ 0)
    × (stood.marks.removed ≡ 0)
    → IsEnd plan stood text (Some end) → CountsSteps stood.marks end.marks (planned_steps plan stood text)
plan_counts None stood text end none is = absurd cc
plan_counts (Some plan) stood text end none is =
    text_counts plan.size plan.keep stood end text (let f = none.0 in omega (arith, f)) (let r = none.1 in
    omega (arith, r)) is

finished_by : (plan : Option Plan) (stood : Standing) (text : List Sent) (end : Option Standing)
    → (stood.marks.finished ≡ 0) × (stood.marks.removed ≡ 0) → IsEnd plan stood text end
    → IfSome end (λ e. e.marks.finished ≡ min (2 ^ 64 - 1) (count_by is_finish (planned_steps plan stood text)))
finished_by plan stood text None none is = tt
finished_by plan stood text (Some end) none is =
    let k = plan_counts plan stood text end none is in let e = k.finished in let z = none.0 in
    e ∙ ap (λ (n : ℕ). min (2 ^ 64 - 1) (n + count_by is_finish (planned_steps plan stood text))) z
    ∙ from_none (count_by is_finish (planned_steps plan stood text))

removed_by : (plan : Option Plan) (stood : Standing) (text : List Sent) (end : Option Standing)
    → (stood.marks.finished ≡ 0) × (stood.marks.removed ≡ 0) → IsEnd plan stood text end
    → IfSome end (λ e. e.marks.removed ≡ min (2 ^ 64 - 1) (count_by is_remove (planned_steps plan stood text)))
removed_by plan stood text None none is = tt
removed_by plan stood text (Some end) none is =
    let k = plan_counts plan stood text end none is in let e = k.removed in let z = none.1 in
    e ∙ ap (λ (n : ℕ). min (2 ^ 64 - 1) (n + count_by is_remove (planned_steps plan stood text))) z
    ∙ from_none (count_by is_remove (planned_steps plan stood text))

pub run_counts : (script : List Act) (stood : ℕ → Standing) (labels : List Tai64n) (bytes : List ℕ)
    (ends : List Standing)
    → ((log : ℕ) → ((stood log).marks.finished ≡ 0) × ((stood log).marks.removed ≡ 0))
    → ((log : ℕ) → IsEnd (slice_get (log_plans script) log) (stood log) (log_text script log labels bytes)
    (slice_get ends log))
    → CountsAllSteps script stood labels bytes ends
run_counts script stood labels bytes ends none is = record {
  finished = sum_from (λ (end : Standing). end.marks.finished) ends
      (λ log. count_by is_finish (log_steps script stood labels bytes log)) 0 (omega arith)
      (λ log. finished_by (slice_get (log_plans script) log) (stood log) (log_text script log labels bytes)
      (slice_get ends log) (none log) (is log))
      ∙ from_none (total_below (length ends) (λ log. count_by is_finish (log_steps script stood labels bytes log)));
  removed = sum_from (λ (end : Standing). end.marks.removed) ends
      (λ log. count_by is_remove (log_steps script stood labels bytes log)) 0 (omega arith)
      (λ log. removed_by (slice_get (log_plans script) log) (stood log) (log_text script log labels bytes)
      (slice_get ends log) (none log) (is log))
      ∙ from_none (total_below (length ends) (λ log. count_by is_remove (log_steps script stood labels bytes log)));
}
