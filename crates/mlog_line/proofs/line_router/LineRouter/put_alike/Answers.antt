use Rattle.std.proofs.Common.{subst, length}
use Rattle.mlog_line.specs.Given.{to_first}
use Rattle.mlog_line.specs.LineRouter.{Place}
use Rattle.mlog_line.specs.Outputs.{HandsText}
use Rattle.mlog_line.proofs.line_router.LineRouter.put_alike.Goals as goal

pub returns-in-Everywhere-clause-hands : goal.returns-in-Everywhere-clause-hands
returns-in-Everywhere-clause-hands g c =
    rw c.in-Everywhere.is
    (subst (λ (p : Place). HandsText c.put_all_within.result p.tails c.put_all_within.new.tails.items
    (g.S.LogStore.state c.args.store.now)
    (g.S.LogStore.state c.put_all_within.new.store) c.args.bytes.now (to_first (length p.tails))) c.self.view_is
    c.put_all_within.ensures)
