use Rattle.std.proofs.Common.{take, map}
use Rattle.cmd_report.specs.Finds.{FindsWords}
use Rattle.cmd_report.proofs.find.find_all.Given as goal

-- the services so far are found
abbrev pub invariant-loop-folder : goal.invariant-loop-folder
invariant-loop-folder g l =
    FindsWords (map (λ word. word.now) (take l.folder-index l.folders))
    l.founds.items l.fn.observer l.observer
