use Rattle.std.proofs.Common.{◌+◌, sym, subst, take}
use Rattle.std.proofs.lemmas.Result.{err_from_is_err_and}
use Rattle.mlog_script.specs.Selection.{padded}
use Rattle.mlog_line.specs.Several.{Replaced}
use Rattle.mlog_line.proofs.Ones.{read_flag}
use Rattle.mlog_line.proofs.Alerted.{replaced_next, replaced_not, replaced_some}
use Rattle.mlog_line.proofs.statuses.replace_chosen.Goals.{then-is_chosen+in_ok-replace_one, else-is_chosen}
use Rattle.mlog_line.proofs.statuses.replace_chosen.Goals as goal

pub returns-in_err-replace_one-clause-err : goal.returns-in_err-replace_one-clause-err
returns-in_err-replace_one-clause-err g c =
    let p = err_from_is_err_and c.from_residual.result c.from_residual.ensures.1 in
    rw (p.1) (replaced_some _ _ _ c.args.chosen.now c.loop-file.file (padded c.args.front.now) c.loop-file.invariant
    c.in_err-replace_one.ensures.err)

pub loop-file-preserved : goal.loop-file-preserved
loop-file-preserved g c =
    let flag = read_flag c.args.chosen.now c.loop-file.file c.loop-file-test.true in
    elim c.if-is_chosen.branch [
      | then-is_chosen+in_ok-replace_one w ↦
          subst (λ (s : g.row.S.Denot). Replaced (g.S.LogStore.state c.args.store.now) (g.S.LogStore.state s)
          (take (c.loop-file.file + 1) c.args.chosen.now) (padded c.args.front.now)) (sym w.store-is)
          (replaced_next _ _ _ c.args.chosen.now c.loop-file.file _ (padded c.args.front.now) c.loop-file-test.true flag
          w.if-is_chosen.true c.loop-file.invariant w.in_ok-replace_one.ensures.ok)
      | else-is_chosen w ↦
          subst (λ (s : g.row.S.Denot). Replaced (g.S.LogStore.state c.args.store.now) (g.S.LogStore.state s)
          (take (c.loop-file.file + 1) c.args.chosen.now) (padded c.args.front.now)) (sym w.store-is)
          (replaced_not _ _ c.args.chosen.now c.loop-file.file _ (padded c.args.front.now) c.loop-file-test.true flag
          w.if-is_chosen.false c.loop-file.invariant)
    ]
