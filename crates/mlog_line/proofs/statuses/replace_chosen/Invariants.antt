use Rattle.std.proofs.Common.{take}
use Rattle.mlog_script.specs.Selection.{padded}
use Rattle.mlog_line.specs.Several.{Replaced}
use Rattle.mlog_line.proofs.statuses.replace_chosen.Given as goal

abbrev pub invariant-loop-file : goal.invariant-loop-file
invariant-loop-file g l =
    Replaced (g.S.LogStore.state l.fn.store) (g.S.LogStore.state l.store) (take l.file l.chosen) (padded l.front)
