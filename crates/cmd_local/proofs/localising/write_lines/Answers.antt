use Rattle.std.proofs.lemmas.Result.{err_from_is_err_and}
use Rattle.cmd_local.proofs.Runs.{flushed, unflushed}
use Rattle.cmd_local.proofs.localising.write_lines.Goals as goal

pub returns-in_err-flush-clause-err : goal.returns-in_err-flush-clause-err
returns-in_err-flush-clause-err g c =
    let p = err_from_is_err_and c.from_residual-in_err-flush.result c.from_residual-in_err-flush.ensures.1 in
    rw (p.1) (unflushed c.args.writer.now c.put_lines.new.writer c.flush.new.writer c.new-block.ensures
    c.in_ok-at.ensures.ok c.in_err-flush.ensures.err)

pub returns-clause-ok : goal.returns-clause-ok
returns-clause-ok g c =
    flushed c.put_lines.new.writer c.new-block.ensures c.in_ok-at.ensures.ok c.in_ok-flush.ensures.ok
