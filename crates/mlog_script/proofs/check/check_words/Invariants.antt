use Rattle.std.proofs.Common.{◌≡◌, [], map, take}
use Rattle.mlog_script.specs.Script.{faults}
use Rattle.mlog_script.proofs.check.check_words.Given as goal

abbrev pub invariant-loop-place : goal.invariant-loop-place
invariant-loop-place g l = faults (map g.W.AsSlice.items (take l.place l.words)) ≡ []
