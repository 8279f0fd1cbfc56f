use Rattle.std.proofs.Common.{◌<◌, Some, length, take, ◌∙◌, arith, refl}
use Rattle.std.proofs.lemmas.List.{length-take-le}
use Rattle.std.proofs.lemmas.Result.{err_from_is_err_and, IfErr-weaker}
use Rattle.mlog_files.specs.Going.{finish_at, finished_at}
use Rattle.mlog_files.specs.Tails.{marks_at, standing, steps_at}
use Rattle.mlog_files.proofs.Putting.{over_steps, over_done, over_failed, stops_before, if_ok_both}
use Rattle.mlog_files.proofs.tail.Tail.put_part.Goals as goal

pub returns-in_err-finish-clause-stopped : goal.returns-in_err-finish-clause-stopped
returns-in_err-finish-clause-stopped g c =
    let tail = c.args.self.now in
    let reading = c.args.reading.now in
    let p = err_from_is_err_and c.from_residual.result c.from_residual.ensures.1 in
    let sized : 0 < tail.size = let s = tail.sized in omega (arith, s) in
    let all = over_steps tail.size tail.keep tail.size tail.keep (standing tail)
    (finished_at tail.keep (marks_at tail) reading) reading c.args.bytes.now
    sized c.if-self.false c.requires.some refl refl refl in
    rw (p.1) (rw (p.2) (stops_before tail.waiting (finish_at tail.keep (marks_at tail) reading) tail.size tail.keep _ _
    _ all.0 all.1 c.in_err-finish.ensures.stopped))

pub returns-clause-puts : goal.returns-clause-puts
returns-clause-puts g c =
    let tail = c.args.self.now in
    let now = c.finish.new.self in
    let reading = c.args.reading.now in
    let sized : 0 < tail.size = let s = tail.sized in omega (arith, s) in
    if_ok_both c.put_open-2.result _ _ _
    (λ taken within puts.
    let long = length-take-le taken c.args.bytes.now within.1 in
    let some : 0 < length (take taken c.args.bytes.now) = let w = within.0 in omega (arith, long, w) in
    let all = over_steps tail.size tail.keep now.size now.keep (standing tail) (Some (standing now)) reading
    (take taken c.args.bytes.now)
    sized c.if-self.false some c.in_ok-finish.ensures.same.size c.in_ok-finish.ensures.same.keep
    c.in_ok-finish.ensures.stands in
    record {
      goes = over_done (finish_at tail.keep (marks_at tail) reading)
          (steps_at now reading (take taken c.args.bytes.now)) (steps_at tail reading (take taken c.args.bytes.now))
          all.0 c.in_ok-finish.ensures.ok c.in_ok-finish.ensures.empty puts.goes;
      stands = all.1 ∙ puts.stands;
    })
    c.put_open-2.ensures.taken c.put_open-2.ensures.puts

pub returns-clause-stopped : goal.returns-clause-stopped
returns-clause-stopped g c =
    let tail = c.args.self.now in
    let now = c.finish.new.self in
    let reading = c.args.reading.now in
    let sized : 0 < tail.size = let s = tail.sized in omega (arith, s) in
    let all = over_steps tail.size tail.keep now.size now.keep (standing tail) (Some (standing now)) reading
    c.args.bytes.now
    sized c.if-self.false c.requires.some c.in_ok-finish.ensures.same.size c.in_ok-finish.ensures.same.keep
    c.in_ok-finish.ensures.stands in
    IfErr-weaker c.put_open-2.result _ _
    (λ why stopped. over_failed tail.waiting (finish_at tail.keep (marks_at tail) reading) _ _ _ all.0 all.1
    c.in_ok-finish.ensures.ok c.in_ok-finish.ensures.empty stopped)
    c.put_open-2.ensures.stopped
