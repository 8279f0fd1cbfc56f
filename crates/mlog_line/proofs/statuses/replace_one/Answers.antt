use Rattle.std.proofs.Common.{ℕ, List, [], ◌∷◌, ◌++◌, length, drop, replicate, subst, ap, ◌∙◌}
use Rattle.std.proofs.lemmas.Result.{on_ok_weaker}
use Rattle.mlog_files.specs.Store.{Replaces}
use Rattle.mlog_line.proofs.Alerted.{padded_is}
use Rattle.mlog_line.proofs.statuses.replace_one.Goals as goal

pub returns-clause-ok : goal.returns-clause-ok
returns-clause-ok g c =
    on_ok_weaker c.replace_status.result
    (λ k. subst (λ (t : List ℕ).
    Replaces (g.S.LogStore.state c.args.store.now) (g.S.LogStore.state c.replace_status.new.self) c.args.file (t ∷ []))
    (ap (λ (t : List ℕ). t ++ drop (length c.args.front.now) (replicate 1001 10)) c.copy_from_slice.ensures.after
    ∙ padded_is c.args.front.now c.requires.front) k) c.replace_status.ensures.ok
