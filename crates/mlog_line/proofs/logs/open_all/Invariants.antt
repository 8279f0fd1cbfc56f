use Rattle.std.proofs.Common.{◌≤◌, ◌<◌, ◌-◌, ℕ, length, count_by}
use Rattle.std.specs.Prelude.{slice_get}
use Rattle.mlog_script.specs.Script.{is_log, log_plans}
use Rattle.mlog_line.specs.LineRouter.{IsOpenedAt}
use Rattle.mlog_line.proofs.logs.open_all.Given as goal

abbrev pub invariant-loop-plan : goal.invariant-loop-plan
invariant-loop-plan g l =
    ((log : ℕ) → log < length l.tails.items
    → IsOpenedAt (slice_get (log_plans l.script) log) ((g.S.LogStore.state l.store).visible.files log)
    (slice_get l.tails.items log))
    × (length l.tails.items ≤ count_by is_log l.script)

abbrev pub decreases-loop-plan : goal.decreases-loop-plan
decreases-loop-plan g l = count_by is_log l.script - length l.tails.items
