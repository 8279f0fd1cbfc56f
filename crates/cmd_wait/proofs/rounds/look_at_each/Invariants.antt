use Rattle.std.proofs.Common.{◌≤◌, ◌-◌, take, drop, vec_len}
use Rattle.cmd_wait.specs.Finding.{awaited}
use Rattle.cmd_wait.specs.Rounds.{LooksAt}
use Rattle.cmd_wait.proofs.rounds.look_at_each.Given as goal

-- those before the place were looked at and are left, and those from it on were not looked at
abbrev pub invariant-loop-at : goal.invariant-loop-at
invariant-loop-at g l =
    LooksAt l.goal (awaited l.fn.left.items) (awaited (take l.at l.left.items)) (awaited (drop l.at l.left.items))
    (g.S.Services.calls l.fn.services) (g.S.Services.calls l.services)
    × (l.at ≤ vec_len l.left)

abbrev pub decreases-loop-at : goal.decreases-loop-at
decreases-loop-at g l = vec_len l.left - l.at
