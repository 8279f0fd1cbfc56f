use Rattle.std.proofs.Common.{arith}
use Rattle.std.proofs.lemmas.List.{length-map}
use Rattle.mlog_script.specs.Script.{is_alert, is_log, is_file}
use Rattle.mlog_script.specs.Action.{act}
use Rattle.mlog_script.proofs.Choosing.{none_counted}
use Rattle.mlog_script.proofs.script.quiet_front.Goals as goal

pub loop-place-preserved : goal.loop-place-preserved
loop-place-preserved g c =
    let actions = c.args.actions.now in
    let before = c.loop-place.invariant in
    let none = c.is_output.ensures.none c.if-is_output.false in record {
      within = omega (arith, c.loop-place-test.true, length-map actions act);
      alerts = none_counted act is_alert actions c.loop-place.place c.index-actions-place.result c.loop-place-test.true
          c.index-actions-place.is none.0 before.alerts;
      logs = none_counted act is_log actions c.loop-place.place c.index-actions-place.result c.loop-place-test.true
          c.index-actions-place.is none.1 before.logs;
      files = none_counted act is_file actions c.loop-place.place c.index-actions-place.result c.loop-place-test.true
          c.index-actions-place.is none.2 before.files;
    }
