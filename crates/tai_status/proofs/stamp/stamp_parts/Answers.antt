use Rattle.std.proofs.Common.{arith}
use Rattle.std.proofs.lemmas.Grind.{common_steps}
use Rattle.std.proofs.lemmas.Result.{err_from_is_err_and}
use Rattle.tai_status.proofs.Parts.{line_again, parts_further, inside_further, begun_further, parts_failed}
use Rattle.tai_status.proofs.stamp.stamp_parts.Goals as goal

pub stamp_part-requires-clause-line : goal.stamp_part-requires-clause-line
stamp_part-requires-clause-line g c = line_again _ c.first_part-part.result.len c.first_part-part.ensures.front

pub returns-in_err-stamp_part-clause-err : goal.returns-in_err-stamp_part-clause-err
returns-in_err-stamp_part-clause-err g c =
    let p = err_from_is_err_and c.from_residual.result c.from_residual.ensures.1 in
    rw (p.1) (parts_failed c.args.bytes.now c.loop-at.at c.first_part-part.result.len c.loop-at.invariant.1
    c.loop-at.invariant.0 c.in_err-stamp_part.ensures.err)

pub loop-at-preserved : goal.loop-at-preserved
loop-at-preserved g c = (
  parts_further c.args.bytes.now c.loop-at.at c.first_part-part.result.len c.loop-at.invariant.1 c.loop-at.invariant.0
      c.in_ok-stamp_part.ensures.ok,
  inside_further c.args.inside.now c.args.bytes.now c.loop-at.at c.first_part-part.result.len c.loop-at.invariant.1
      c.first_part-part.ensures.front (grind (arith, common_steps)),
  begun_further c.args.inside.now c.args.bytes.now c.loop-at.at c.first_part-part.result.len c.loop-at.invariant.1
      c.loop-at.invariant.2 (grind (arith, common_steps)) c.first_part-part.ensures.front c.lines_begun-count.ensures,
  grind (arith, common_steps),
  grind (arith, common_steps),
  grind (arith, common_steps),
)
