use Rattle.std.proofs.Common.{◌≤◌, ◌-◌, take, length}
use Rattle.mlog_files.specs.Store.{Alerts}
use Rattle.mlog_line.proofs.alerts.alert_all.Given as goal

abbrev pub invariant-loop-at : goal.invariant-loop-at
invariant-loop-at g l = Alerts (g.S.LogStore.state l.fn.store) (g.S.LogStore.state l.store) (take l.at l.text)
    × (l.at ≤ length l.text)

abbrev pub decreases-loop-at : goal.decreases-loop-at
decreases-loop-at g l = length l.text - l.at
