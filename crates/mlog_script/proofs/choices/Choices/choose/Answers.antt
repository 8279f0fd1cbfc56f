use Rattle.std.proofs.Common.{◌∙◌, ap, length, map, count_by}
use Rattle.mlog_script.specs.Script.{is_alert, is_log, is_file}
use Rattle.mlog_script.specs.Action.{act}
use Rattle.mlog_script.proofs.Choosing.{length-choices, chosen_stays, set_noted}
use Rattle.mlog_script.proofs.choices.Choices.choose.Goals as goal

pub returns-then-not-decides-clause-chosen : goal.returns-then-not-decides-clause-chosen
returns-then-not-decides-clause-chosen g c =
    chosen_stays c.args.script.now c.args.front.now c.args.self.now c.self.inside.marks.alerts.items
    c.self.inside.marks.logs.items c.self.inside.marks.files.items
    c.self.view_is (c.self.invariant c.if-self.true) c.requires c.has_patterns-decides.result
    c.has_patterns-decides.ensures c.if-not-decides.true

pub invariant_of-self : goal.invariant_of-self
invariant_of-self g c = λ other. (
  set_noted is_alert c.args.script.now (map act c.actions.result.now) c.args.front.now _ _ c.mark.ensures.alerts
      c.actions.ensures.actions c.has_patterns-decides.ensures other,
  set_noted is_log c.args.script.now (map act c.actions.result.now) c.args.front.now _ _ c.mark.ensures.logs
      c.actions.ensures.actions c.has_patterns-decides.ensures other,
  set_noted is_file c.args.script.now (map act c.actions.result.now) c.args.front.now _ _ c.mark.ensures.files
      c.actions.ensures.actions c.has_patterns-decides.ensures other,
)

pub returns-clause-fits : goal.returns-clause-fits
returns-clause-fits g c = record {
  alerts_fit = ap length c.mark.ensures.alerts ∙ length-choices is_alert (map act c.actions.result.now) c.args.front.now
      ∙ ap (count_by is_alert) c.actions.ensures.actions;
  logs_fit = ap length c.mark.ensures.logs ∙ length-choices is_log (map act c.actions.result.now) c.args.front.now
      ∙ ap (count_by is_log) c.actions.ensures.actions;
  files_fit = ap length c.mark.ensures.files ∙ length-choices is_file (map act c.actions.result.now) c.args.front.now
      ∙ ap (count_by is_file) c.actions.ensures.actions;
}
