use Rattle.std.proofs.Common.{take}
use Rattle.mlog_files.specs.Store.{Alerts}
use Rattle.mlog_line.specs.Given.{alerts_for}
use Rattle.mlog_line.proofs.alerts.alert_chosen.Given as goal

abbrev pub invariant-loop-is_chosen : goal.invariant-loop-is_chosen
invariant-loop-is_chosen g l =
    Alerts (g.S.LogStore.state l.fn.store) (g.S.LogStore.state l.store)
    (alerts_for (take l.is_chosen-index l.chosen) l.front)
