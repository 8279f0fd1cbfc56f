use Rattle.mlog_core.proofs.Rotating.{RotatedBelow}
use Rattle.mlog_core.proofs.rotate.rotate_all.Given as goal

abbrev pub invariant-loop-log : goal.invariant-loop-log
invariant-loop-log g l =
    RotatedBelow l.script l.reading (g.S.LogStore.state l.fn.store) (g.S.LogStore.state l.store) l.log
