use Rattle.std.proofs.Common.{arith}
use Rattle.std.proofs.lemmas.Grind.{common_steps}
use Rattle.std.proofs.lemmas.Result.{err_from_is_err_and}
use Rattle.tai_status.proofs.Known.{Emits-further, Emits-failed}
use Rattle.tai_status.proofs.block.Block.put.Goals as goal

pub loop-at-preserved : goal.loop-at-preserved
loop-at-preserved g c =
    let kept = c.loop-at.invariant in (
      Emits-further c.args.piece.now c.loop-at.at c.in_ok-at.field-0 kept.0 c.in_ok-at.ensures.ok,
      grind (arith, common_steps),
      grind (arith, common_steps),
    )

pub returns-in_err-at-clause-err : goal.returns-in_err-at-clause-err
returns-in_err-at-clause-err g c =
    let p = err_from_is_err_and c.from_residual.result c.from_residual.ensures.1 in
    rw (p.1) (Emits-failed c.args.piece.now c.loop-at.at c.loop-at.invariant.0 c.in_err-at.ensures.err)
