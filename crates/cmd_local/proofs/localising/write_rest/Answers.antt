use Rattle.std.proofs.lemmas.Result.{on_err_weaker}
use Rattle.cmd_local.proofs.Runs.{unflushed_text}
use Rattle.cmd_local.proofs.localising.write_rest.Goals as goal

pub returns-clause-err : goal.returns-clause-err
returns-clause-err g c =
    on_err_weaker c.flush.result (λ e. unflushed_text c.new-block.ensures c.in_ok-put_line.ensures.ok e)
    c.flush.ensures.err
