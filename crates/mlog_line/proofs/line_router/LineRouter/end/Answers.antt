use Rattle.std.proofs.Common.{ap, ◌∙◌, sym, true, ◌≡◌, rules}
use Rattle.std.proofs.lemmas.Result.{on_ok_weaker}
use Rattle.mlog_line.specs.LineRouter.{Place}
use Rattle.mlog_line.specs.Outputs.{outputs}
use Rattle.mlog_line.proofs.Taking.{if_err_weaker}
use Rattle.mlog_line.proofs.Handing.{end_grows, end_stopped}
use Rattle.mlog_line.proofs.line_router.LineRouter.end.Goals as goal

pub returns-then-self : goal.returns-then-self
returns-then-self g c =
    let p = c.args.self.now in
    let is : p.decided ≡ true = ap (λ (q : Place). q.decided) (sym c.self.view_is) ∙ c.if-self.true in
    let same = (ap (λ (q : Place). outputs q.tails (g.S.LogStore.state c.args.store.now)) c.self.view_is) in
    let flags = c.logs.ensures ∙ ap (λ (q : Place). q.chosen.logs) c.self.view_is in
    record {
      grows = on_ok_weaker c.put_chosen.result
          (λ k line at. end_grows c.args.script.now p c.args.label.now line _ _ _ _ is same flags k at)
          c.put_chosen.ensures.ok;
      stopped = if_err_weaker c.put_chosen.result _ _
          (λ why k line at. end_stopped c.args.script.now p c.args.label.now line _ _ _ _ why is same flags k at)
          c.put_chosen.ensures.stopped;
      serves = search rules;
      stays = c.put_chosen.ensures.stays;
    }
