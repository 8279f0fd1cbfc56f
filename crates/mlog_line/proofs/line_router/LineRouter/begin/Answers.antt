use Rattle.std.proofs.Common.{rules}
use Rattle.std.proofs.Common.{ap, ◌∙◌, List, ℕ, ◌++◌, ◌∷◌, [], sym}
use Rattle.mlog_line.proofs.Handing.{stamped_front}
use Rattle.mlog_line.proofs.line_router.LineRouter.begin.Goals as goal

pub returns-then-stamps-clause-at : goal.returns-then-stamps-clause-at
returns-then-stamps-clause-at g c =
    stamped_front c.args.script.now c.args.label.now _ c.text.result (sym c.stamps.ensures ∙ c.if-stamps.true)
    c.text.ensures.text
    (c.push-then-stamps.ensures
    ∙ ap (λ (t : List ℕ). t ++ 32 ∷ []) (c.push.ensures ∙ ap (λ (t : List ℕ). t ++ c.text.result) c.clear.ensures))
    (search rules)
