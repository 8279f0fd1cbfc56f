use Rattle.std.proofs.Common.{◌≡◌, ◌++◌, take, drop}
use Rattle.cmd_why.specs.Entries.{behind_last}
use Rattle.cmd_why.proofs.entries.behind_last.Given as goal

-- those after the last one so far, and those to come
abbrev pub invariant-loop-place : goal.invariant-loop-place
invariant-loop-place l = l.behind ≡ behind_last l.kind (take l.place l.entries) ++ drop l.place l.entries
