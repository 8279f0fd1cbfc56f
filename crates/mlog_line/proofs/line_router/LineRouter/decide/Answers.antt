use Rattle.std.proofs.Common.{ℕ, List, ◌++◌, ap, ◌∙◌, rules}
use Rattle.std.proofs.lemmas.Result.{on_ok_weaker}
use Rattle.mlog_script.specs.Selection.{Chosen, chosen}
use Rattle.mlog_files.proofs.Doing.{Stays-then}
use Rattle.mlog_line.specs.LineRouter.{Place}
use Rattle.mlog_line.proofs.Taking.{if_err_weaker}
use Rattle.mlog_line.proofs.Deciding.{decided_half, decided_stopped, decided_takes}
use Rattle.mlog_line.proofs.line_router.LineRouter.decide.Goals as goal

pub returns-in-Err-replace_chosen-clause-decides : goal.returns-in-Err-replace_chosen-clause-decides
returns-in-Err-replace_chosen-clause-decides g c =
    let script = c.args.script.now in
    let kept_is = c.as_slice-front.ensures ∙ ap (λ (p : Place). p.front) c.self.view_is in
    let chosen_is = c.choose.ensures.chosen ∙ ap (chosen script) kept_is in
    let files_is = c.files.ensures ∙ ap (λ (ch : Chosen). ch.files) chosen_is in
    record {
      takes = tt;
      stopped = decided_half c.args.self.now.tails _ _ _ _ script c.args.label.now c.args.self.now.front
          c.as_slice-front.result.now (c.args.self.now.front ++ c.args.end.now) _ _
          (c.alerts.ensures ∙ ap (λ (ch : Chosen). ch.alerts) chosen_is) files_is kept_is c.in-Ok.ensures.ok
          c.in-Err-replace_chosen.ensures.err;
      serves = search rules;
      stays = Stays-then c.in-Ok.ensures.ok.stays c.in-Err-replace_chosen.ensures.err.stays;
    }

pub returns-clause-decides : goal.returns-clause-decides
returns-clause-decides g c =
    let script = c.args.script.now in
    let front_is = ap (λ (p : Place). p.front) c.self.view_is in
    let tails_is = ap (λ (p : Place). p.tails) c.self.view_is in
    let kept_is = c.as_slice-front.ensures ∙ front_is in
    let chosen_is = c.choose.ensures.chosen ∙ ap (chosen script) kept_is in
    let text_is = c.as_slice-text.ensures ∙ c.push.ensures ∙ ap (λ (t : List ℕ). t ++ c.args.end.now) front_is in
    let alerts_is = c.alerts.ensures ∙ ap (λ (ch : Chosen). ch.alerts) chosen_is in
    let files_is = c.files.ensures ∙ ap (λ (ch : Chosen). ch.files) chosen_is in
    let logs_is = c.logs.ensures ∙ ap (λ (ch : Chosen). ch.logs) chosen_is in
    record {
      takes = on_ok_weaker c.put_chosen-put.result (λ k.
          decided_takes c.args.self.now.tails _ _ _ _ _ _ script c.args.label.now c.args.self.now.front
          c.as_slice-front.result.now (c.args.self.now.front ++ c.args.end.now) c.as_slice-text.result.now _ _ _
          tails_is kept_is text_is alerts_is files_is logs_is c.in-Ok.ensures.ok c.in-Ok-replace_chosen.ensures.ok k)
          c.put_chosen-put.ensures.ok;
      stopped = if_err_weaker c.put_chosen-put.result _ _ (λ why k.
          decided_stopped c.args.self.now.tails _ _ _ _ _ _ script c.args.label.now c.args.self.now.front
          c.as_slice-front.result.now (c.args.self.now.front ++ c.args.end.now) c.as_slice-text.result.now _ _ _ why
          tails_is kept_is text_is alerts_is files_is logs_is c.in-Ok.ensures.ok c.in-Ok-replace_chosen.ensures.ok k)
          c.put_chosen-put.ensures.stopped;
      serves = search rules;
      stays = Stays-then c.in-Ok.ensures.ok.stays
          (Stays-then c.in-Ok-replace_chosen.ensures.ok.stays c.put_chosen-put.ensures.stays);
    }
