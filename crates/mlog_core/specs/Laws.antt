-- Facts about the counts of a run.
use Rattle.std.specs.Prelude.{◌≡◌, ℕ, zero, suc, ◌+◌, ◌-◌, ◌^◌, min, count_by, List, length, slice_get}
use Rattle.tai_status.specs.Label.{Tai64n}
use Rattle.mlog_script.specs.Script.{Act, log_plans}
use Rattle.mlog_script.specs.Selection.{log_text}
use Rattle.mlog_files.specs.Files.{is_finish, is_remove}
use Rattle.mlog_files.specs.Going.{Standing}
use Rattle.mlog_core.specs.Run.{log_steps, IsEnd, all_finished, all_removed}

-- the sum of a number that each log below a bound has
abbrev pub total_below : ℕ → (ℕ → ℕ) → ℕ
total_below zero each = 0
total_below (suc count) each = each 0 + total_below count (λ log. each (log + 1))

-- The counts of a run, over logs with nothing counted before: how many of the steps of all logs finish a file, and how
-- many remove one. The counts stop at 2^64 - 1.
pub record CountsAllSteps (script : List Act) (stood : ℕ → Standing) (labels : List Tai64n) (bytes : List ℕ)
    (ends : List Standing) : Type 0 where
  pub finished : all_finished ends ≡ min (2 ^ 64 - 1)
      (total_below (length ends) (λ log. count_by is_finish (log_steps script stood labels bytes log)))
  pub removed : all_removed ends ≡ min (2 ^ 64 - 1)
      (total_below (length ends) (λ log. count_by is_remove (log_steps script stood labels bytes log)))

abbrev pub RunsCountTheirSteps : Type 0
RunsCountTheirSteps = (script : List Act) (stood : ℕ → Standing) (labels : List Tai64n) (bytes : List ℕ)
    (ends : List Standing)
    → ((log : ℕ) → ((stood log).marks.finished ≡ 0) × ((stood log).marks.removed ≡ 0))
    → ((log : ℕ)
    → IsEnd (slice_get (log_plans script) log) (stood log) (log_text script log labels bytes) (slice_get ends log))
    → CountsAllSteps script stood labels bytes ends
