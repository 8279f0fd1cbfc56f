use Rattle.std.proofs.Common.{◌≡◌, ◌≤◌, ◌-◌, take, vec_len}
use Rattle.cmd_wait.specs.Finding.{awaited, entry_folders}
use Rattle.cmd_wait.specs.Marking.{MarksEach}
use Rattle.cmd_wait.proofs.marking.mark_each.Given as goal

-- those before the place have their marks, and the folders are those that were given
abbrev pub invariant-loop-at : goal.invariant-loop-at
invariant-loop-at g l =
    MarksEach l.purpose l.awaits_supervision (entry_folders (take l.at l.entries.items))
    (awaited (take l.at l.entries.items)) (g.S.Services.calls l.fn.services) (g.S.Services.calls l.services)
    × (entry_folders l.entries.items ≡ entry_folders l.fn.entries.items)
    × (l.at ≤ vec_len l.entries)

abbrev pub decreases-loop-at : goal.decreases-loop-at
decreases-loop-at g l = vec_len l.entries - l.at
