use Rattle.std.proofs.Common.{◌≡◌, take}
use Rattle.mlog_files.specs.Named.{greatest_label}
use Rattle.mlog_files.proofs.memory.LogFiles.last_label.Given as goal

abbrev pub invariant-loop-old : goal.invariant-loop-old
invariant-loop-old g l = l.greatest ≡ greatest_label (take l.old-index l.old-items)
