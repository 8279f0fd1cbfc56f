use Rattle.std.proofs.Common.{◌≡◌, ◌+◌, ◌≤◌, not, ◌==◌, length, take}
use Rattle.std.specs.List.{suffix_len}
use Rattle.svc_record.proofs.stat.behind_name.Given as goal

-- what was passed has no parenthesis
abbrev pub invariant-loop-from : goal.invariant-loop-from
invariant-loop-from l =
    (l.from ≤ length l.line)
    × (l.from + suffix_len (λ byte. not (byte == 41)) l.line
    ≡ length l.line + suffix_len (λ byte. not (byte == 41)) (take l.from l.line))

abbrev pub decreases-loop-from : goal.decreases-loop-from
decreases-loop-from l = l.from
