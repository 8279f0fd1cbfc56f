use Rattle.std.proofs.Common.{◌≡◌, ◌∙◌, arith, map, refl, take}
use Rattle.mlog_script.specs.Script.{is_alert, is_log, is_file}
use Rattle.mlog_script.specs.Selection.{is_chosen}
use Rattle.mlog_script.specs.Action.{act}
use Rattle.mlog_script.proofs.Choosing.{chosen_between, flags_step, no_flag, no_flags, room_at}
use Rattle.mlog_script.proofs.choices.mark.Goals as goal

pub loop-place-init : goal.loop-place-init
loop-place-init g c =
    let actions = c.args.actions.now in
    let quiet = c.requires.quiet in record {
      asked_before = omega arith;
      chosen_is = refl;
      alerts_are = c.requires.empty.0 ∙ no_flags act is_alert actions c.args.front.now c.args.quiet quiet.alerts;
      logs_are = c.requires.empty.1 ∙ no_flags act is_log actions c.args.front.now c.args.quiet quiet.logs;
      files_are = c.requires.empty.2 ∙ no_flags act is_file actions c.args.front.now c.args.quiet quiet.files;
      alerts_fit = c.requires.alerts;
      logs_fit = c.requires.logs;
      files_fit = c.requires.files;
    }

pub note-requires-clause-alerts : goal.note-requires-clause-alerts
note-requires-clause-alerts g c here =
    room_at act is_alert c.args.actions.now c.args.front.now c.loop-place.place _ c.index-actions-place.result
    c.loop-place.marks.alerts.items
    c.loop-place-test.true c.index-actions-place.is c.loop-place.invariant.alerts_are c.loop-place.invariant.alerts_fit
    here

pub note-requires-clause-logs : goal.note-requires-clause-logs
note-requires-clause-logs g c here =
    room_at act is_log c.args.actions.now c.args.front.now c.loop-place.place _ c.index-actions-place.result
    c.loop-place.marks.logs.items
    c.loop-place-test.true c.index-actions-place.is c.loop-place.invariant.logs_are c.loop-place.invariant.logs_fit here

pub note-requires-clause-files : goal.note-requires-clause-files
note-requires-clause-files g c here =
    room_at act is_file c.args.actions.now c.args.front.now c.loop-place.place _ c.index-actions-place.result
    c.loop-place.marks.files.items
    c.loop-place-test.true c.index-actions-place.is c.loop-place.invariant.files_are c.loop-place.invariant.files_fit
    here

pub loop-place-preserved-then-not-is_output : goal.loop-place-preserved-then-not-is_output
loop-place-preserved-then-not-is_output g c =
    let before = c.loop-place.invariant in
    let none = c.is_output.ensures.none c.if-not-is_output.true in record {
      asked_before = let few = before.asked_before in omega (arith, few);
      chosen_is = before.chosen_is;
      alerts_are = no_flag act is_alert c.args.actions.now c.args.front.now c.loop-place.place
          c.index-actions-place.result c.loop-place.marks.alerts.items
          c.loop-place-test.true c.index-actions-place.is none.0 before.alerts_are;
      logs_are = no_flag act is_log c.args.actions.now c.args.front.now c.loop-place.place c.index-actions-place.result
          c.loop-place.marks.logs.items
          c.loop-place-test.true c.index-actions-place.is none.1 before.logs_are;
      files_are = no_flag act is_file c.args.actions.now c.args.front.now c.loop-place.place
          c.index-actions-place.result c.loop-place.marks.files.items
          c.loop-place-test.true c.index-actions-place.is none.2 before.files_are;
      alerts_fit = before.alerts_fit;
      logs_fit = before.logs_fit;
      files_fit = before.files_fit;
    }

pub loop-place-preserved : goal.loop-place-preserved
loop-place-preserved g c =
    let before = c.loop-place.invariant in
    let chosen : c.is_chosen_behind-chosen.result
    ≡ is_chosen (map act (take c.loop-place.place c.args.actions.now)) c.args.front.now =
    chosen_between act c.args.actions.now c.args.front.now c.loop-place.asked c.loop-place.place c.loop-place.chosen
    c.is_chosen_behind-chosen.result
    before.asked_before before.chosen_is c.is_chosen_behind-chosen.ensures in record {
      asked_before = omega arith;
      chosen_is = chosen;
      alerts_are = flags_step act is_alert c.args.actions.now c.args.front.now c.loop-place.place
          c.index-actions-place.result c.is_chosen_behind-chosen.result c.loop-place.marks.alerts.items _
          c.loop-place-test.true c.index-actions-place.is chosen before.alerts_are c.note.ensures.alerts;
      logs_are = flags_step act is_log c.args.actions.now c.args.front.now c.loop-place.place
          c.index-actions-place.result c.is_chosen_behind-chosen.result c.loop-place.marks.logs.items _
          c.loop-place-test.true c.index-actions-place.is chosen before.logs_are c.note.ensures.logs;
      files_are = flags_step act is_file c.args.actions.now c.args.front.now c.loop-place.place
          c.index-actions-place.result c.is_chosen_behind-chosen.result c.loop-place.marks.files.items _
          c.loop-place-test.true c.index-actions-place.is chosen before.files_are c.note.ensures.files;
      alerts_fit = omega (arith, before.alerts_fit, c.note.ensures.alert_room);
      logs_fit = omega (arith, before.logs_fit, c.note.ensures.log_room);
      files_fit = omega (arith, before.files_fit, c.note.ensures.file_room);
    }
