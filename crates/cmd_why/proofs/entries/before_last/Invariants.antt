use Rattle.std.proofs.Common.{◌≡◌, take}
use Rattle.cmd_why.specs.Entries.{before_last}
use Rattle.cmd_why.proofs.entries.before_last.Given as goal

-- those before the last one so far
abbrev pub invariant-loop-place : goal.invariant-loop-place
invariant-loop-place l = l.before ≡ before_last l.kind (take l.place l.entries)
