use Rattle.std.proofs.Common.{◌∙◌, sym, ap}
use Rattle.mlog_files.specs.Files.{append_steps}
use Rattle.mlog_files.specs.Going.{finish_at, finish_under, stands_under}
use Rattle.mlog_files.specs.Tails.{marks_at}
use Rattle.mlog_files.proofs.Doing.{Fails-more, finish_done, finish_failed}
use Rattle.mlog_files.proofs.Putting.{stops_failed, stops_spent}
use Rattle.mlog_files.proofs.tail.Tail.finish.Goals as goal

pub returns-in-Err-clause-stopped : goal.returns-in-Err-clause-stopped
returns-in-Err-clause-stopped g c =
    stops_failed _ _ (Fails-more (finish_at c.args.self.now.keep (marks_at c.args.self.now) c.args.reading.now)
    c.in-Err.ensures.err)

pub returns-in_default-clause-stopped : goal.returns-in_default-clause-stopped
returns-in_default-clause-stopped g c =
    let tail = c.args.self.now in
    let given = sym c.label_for.ensures ∙ c.in_default.is in
    stops_spent (append_steps tail.waiting) _ _ c.in-Ok.ensures.ok (ap (stands_under tail.keep (marks_at tail)) given)
    (ap (finish_under tail.keep (marks_at tail)) given)

pub returns-in-Ok-finish_under-clause-ok : goal.returns-in-Ok-finish_under-clause-ok
returns-in-Ok-finish_under-clause-ok g c =
    finish_done c.args.self.now.keep (marks_at c.args.self.now) c.args.reading.now c.in-Some.label
    c.args.self.now.waiting
    (sym c.label_for.ensures ∙ c.in-Some.is) c.in-Ok.ensures.ok c.in-Ok-finish_under.ensures.ok

pub returns-in-Err-finish_under-clause-stopped : goal.returns-in-Err-finish_under-clause-stopped
returns-in-Err-finish_under-clause-stopped g c =
    stops_failed _ _ (finish_failed c.args.self.now.keep (marks_at c.args.self.now) c.args.reading.now c.in-Some.label
    c.args.self.now.waiting
    (sym c.label_for.ensures ∙ c.in-Some.is) c.in-Ok.ensures.ok c.in-Err-finish_under.ensures.err)
