use Rattle.std.proofs.Common.{◌≡◌, ◌++◌, take, drop}
use Rattle.mlog_files.specs.Files.{Old, with_old}
use Rattle.mlog_files.proofs.memory.place_of.Given as goal

abbrev pub invariant-loop-place : goal.invariant-loop-place
invariant-loop-place g l =
    (old : Old) → old.name ≡ l.name → with_old old l.olds ≡ take l.place l.olds ++ with_old old (drop l.place l.olds)
