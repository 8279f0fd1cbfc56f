use Rattle.std.proofs.Common.{◌<◌, ℕ}
use Rattle.std.specs.Prelude.{slice_get}
use Rattle.mlog_line.specs.LineRouter.{HasRoomAt}
use Rattle.mlog_line.proofs.logs.room_in_all.Given as goal

abbrev pub invariant-loop-tail : goal.invariant-loop-tail
invariant-loop-tail l = (log : ℕ) → log < l.tail-index → HasRoomAt l.room (slice_get l.tails log)
