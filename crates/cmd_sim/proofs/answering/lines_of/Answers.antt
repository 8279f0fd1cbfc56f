use Rattle.std.proofs.Common.{string_bytes, ◌∙◌}
use Rattle.suite_lines.specs.Text.{step_lines}
use Rattle.cmd_sim.proofs.Answered.{lines_more}
use Rattle.cmd_sim.proofs.answering.lines_of.Goals as goal

pub loop-out-preserved : goal.loop-out-preserved
loop-out-preserved g c =
    lines_more (λ line. string_bytes line) step_lines c.args.outs.now c.loop-out.out-index c.out-item.result
    c.loop-out.lines.items c.into_vec-more.result.items _
    c.loop-out-test.true c.out-item.is c.loop-out.invariant (c.into_vec-more.ensures ∙ c.in_ok-step_text.ensures)
    c.in_ok-append.ensures.items
