use Rattle.std.proofs.Common.{◌≡◌, take}
use Rattle.mlog_line.specs.LineRouter.{total_finished}
use Rattle.mlog_line.proofs.line_router.LineRouter.finished.Given as goal

abbrev pub invariant-loop-tail : goal.invariant-loop-tail
invariant-loop-tail g l = l.total ≡ total_finished (take l.tail-index l.tail-items)
