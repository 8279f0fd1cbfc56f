use Rattle.std.proofs.Common.{sym, ◌∙◌, arith}
use Rattle.cmd_sim.proofs.Steps.{rows_further, two_rows}
use Rattle.cmd_sim.proofs.table.rows_of.Goals as goal

pub loop-byte-preserved : goal.loop-byte-preserved
loop-byte-preserved c = (
  two_rows _ _ c.push_row.ensures.text c.push_row-in-loop-byte.ensures.text c.loop-byte.invariant.0
      ∙ sym (rows_further c.args.bytes.now c.loop-byte.byte-index c.loop-byte-test.true),
  (let a = c.push_row.ensures.len in let b = c.push_row-in-loop-byte.ensures.len in let i = c.loop-byte.invariant.1 in
      omega (arith, a, b, i)),
)
