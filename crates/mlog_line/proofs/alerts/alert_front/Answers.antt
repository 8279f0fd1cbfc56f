use Rattle.std.proofs.Common.{ℕ, List, subst}
use Rattle.std.proofs.lemmas.Result.{on_ok_weaker, on_err_weaker}
use Rattle.mlog_files.specs.Store.{Alerts}
use Rattle.mlog_line.specs.Several.{AlertsFront}
use Rattle.mlog_line.proofs.Alerted.{alert_is}
use Rattle.mlog_line.proofs.alerts.alert_front.Goals as goal

pub returns-clause-ok : goal.returns-clause-ok
returns-clause-ok g c =
    on_ok_weaker c.alert_all.result
    (λ k. subst (λ (t : List ℕ).
    Alerts (g.S.LogStore.state c.args.store.now) (g.S.LogStore.state c.alert_all.new.store) t)
    (alert_is c.args.front.now c.copy_from_slice.new.self c.min-len.result c.min-len.ensures
    c.copy_from_slice.ensures.after) k) c.alert_all.ensures.ok

pub returns-clause-err : goal.returns-clause-err
returns-clause-err g c =
    on_err_weaker c.alert_all.result
    (λ k. subst (λ (t : List ℕ).
    AlertsFront (g.S.LogStore.state c.args.store.now) (g.S.LogStore.state c.alert_all.new.store) t)
    (alert_is c.args.front.now c.copy_from_slice.new.self c.min-len.result c.min-len.ensures
    c.copy_from_slice.ensures.after) k) c.alert_all.ensures.err
