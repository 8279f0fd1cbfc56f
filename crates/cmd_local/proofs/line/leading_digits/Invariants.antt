use Rattle.std.proofs.Common.{◌≡◌, ◌+◌, ◌-◌, ◌≤◌, drop, length}
use Rattle.cmd_local.specs.Lines.{leading_digits}
use Rattle.cmd_local.proofs.line.leading_digits.Given as goal

abbrev pub invariant-loop-count : goal.invariant-loop-count
invariant-loop-count l =
    (leading_digits l.bytes ≡ l.count + leading_digits (drop l.count l.bytes)) × (l.count ≤ 25)
    × (l.count ≤ length l.bytes)

abbrev pub decreases-loop-count : goal.decreases-loop-count
decreases-loop-count l = 25 - l.count
