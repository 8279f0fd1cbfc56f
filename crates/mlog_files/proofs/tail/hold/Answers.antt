use Rattle.std.proofs.lemmas.Result.{err_from_is_err_and, on_ok_weaker, on_err_weaker}
use Rattle.mlog_files.specs.Files.{append_steps}
use Rattle.mlog_files.proofs.Doing.{Does-then, Fails-then, Fails-more, Goes-through}
use Rattle.mlog_files.proofs.tail.hold.Goals as goal

pub returns-in_err-write_out-clause-err : goal.returns-in_err-write_out-clause-err
returns-in_err-write_out-clause-err g c =
    let p = err_from_is_err_and c.from_residual.result c.from_residual.ensures.1 in
    rw (p.1) (Fails-more (append_steps c.args.piece.now) c.in_err-write_out.ensures.err)

pub returns-clause-ok : goal.returns-clause-ok
returns-clause-ok g c =
    on_ok_weaker c.append_all.result
    (λ d. Goes-through c.args.waiting.now c.write_out.new.waiting (append_steps c.args.piece.now)
    c.in_ok-write_out.ensures.empty (Does-then c.in_ok-write_out.ensures.ok d))
    c.append_all.ensures.ok

pub returns-clause-err : goal.returns-clause-err
returns-clause-err g c =
    on_err_weaker c.append_all.result (λ d. Fails-then (append_steps c.args.piece.now) c.in_ok-write_out.ensures.ok d)
    c.append_all.ensures.err
