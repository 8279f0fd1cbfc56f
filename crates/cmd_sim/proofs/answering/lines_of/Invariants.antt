use Rattle.std.proofs.Common.{◌≡◌, map, take, string_bytes}
use Rattle.std.specs.Prelude.{flat_map}
use Rattle.suite_lines.specs.Text.{step_lines}
use Rattle.cmd_sim.proofs.answering.lines_of.Given as goal

abbrev pub invariant-loop-out : goal.invariant-loop-out
invariant-loop-out g l = map (λ line. string_bytes line) l.lines.items ≡ flat_map step_lines (take l.out-index l.outs)
