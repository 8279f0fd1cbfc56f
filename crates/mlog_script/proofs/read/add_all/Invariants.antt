use Rattle.std.proofs.Common.{◌≡◌, map, take}
use Rattle.mlog_script.specs.Script.{said}
use Rattle.mlog_script.specs.Action.{asked_by}
use Rattle.mlog_script.proofs.read.add_all.Given as goal

abbrev pub invariant-loop-place : goal.invariant-loop-place
invariant-loop-place g l = asked_by l.actions.items ≡ map said (map g.W.AsSlice.items (take l.place l.words))
