use Rattle.std.proofs.Common.{take, map}
use Rattle.cmd_page.specs.PageEnds.{AddsRows}
use Rattle.cmd_page.proofs.draw.add_rows.Given as goal

-- the rows so far are added
abbrev pub invariant-loop-folder : goal.invariant-loop-folder
invariant-loop-folder g l =
    AddsRows (g.K.Evidence.known l.sources) l.now
    (map (λ word. word.now) (take l.folder-index l.folders)) l.fn.observer l.observer l.fn.page.items l.page.items
