use Rattle.std.proofs.Common.{take, map}
use Rattle.cmd_why.specs.Why.{ShowsEach}
use Rattle.cmd_why.proofs.why.show_all.Given as goal

-- the services so far are shown
abbrev pub invariant-loop-folder : goal.invariant-loop-folder
invariant-loop-folder g l =
    ShowsEach (g.K.Evidence.known l.sources) l.timeline (map (λ word. word.now) (take l.folder-index l.folders))
    l.fn.observer l.observer l.fn.writer l.writer l.unread
