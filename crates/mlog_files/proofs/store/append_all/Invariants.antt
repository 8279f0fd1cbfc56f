use Rattle.std.proofs.Common.{◌≤◌, ◌-◌, length, take}
use Rattle.mlog_files.specs.Store.{Does}
use Rattle.mlog_files.specs.Files.{append_steps}
use Rattle.mlog_files.proofs.store.append_all.Given as goal

abbrev pub invariant-loop-at : goal.invariant-loop-at
invariant-loop-at g l =
    Does (g.S.LogStore.state l.fn.store) (g.S.LogStore.state l.store) l.log (append_steps (take l.at l.piece))
    × (l.at ≤ length l.piece)

abbrev pub decreases-loop-at : goal.decreases-loop-at
decreases-loop-at g l = length l.piece - l.at
