use Rattle.std.proofs.Common.{take, map}
use Rattle.svc_client.specs.Turns.{InTurn}
use Rattle.cmd_svc.specs.Svstat.{scene, Shows}
use Rattle.cmd_svc.proofs.svstat.show_all.Given as goal

-- the services so far are shown
abbrev pub invariant-loop-folder : goal.invariant-loop-folder
invariant-loop-folder g l =
    InTurn (Shows (g.F.LineForm.line_of l.form)) (map (λ word. word.now) (take l.folder-index l.folders))
    (scene l.fn.observer l.fn.writer) (scene l.observer l.writer)
