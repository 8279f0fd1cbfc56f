use Rattle.std.proofs.Common.{◌≡◌, take}
use Rattle.mlog_line.specs.LineRouter.{total_removed}
use Rattle.mlog_line.proofs.line_router.LineRouter.removed.Given as goal

abbrev pub invariant-loop-tail : goal.invariant-loop-tail
invariant-loop-tail g l = l.total ≡ total_removed (take l.tail-index l.tail-items)
