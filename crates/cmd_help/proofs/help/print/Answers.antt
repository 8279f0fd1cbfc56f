use Rattle.std.proofs.Common.{◌++◌, Option, subst, inr}
use Rattle.std.specs.Prelude.{codes}
use Rattle.tai_status.specs.Counted.{Reports, device_note}
use Rattle.tai_status.specs.declared.cause.Cause.{Cause}
use Rattle.cmd_help.proofs.help.print.Goals as goal

pub returns-in-Err : goal.returns-in-Err
returns-in-Err g c =
    let reports = Reports c.args.faults.now c.report_device.new.faults in
    let note = λ (cause : Option Cause). reports (c.args.command.now ++ (codes "write fault" ++ device_note cause)) in
    record {
      prints = inr (record {
        status_is = c.report_device.ensures.status;
        wrote = c.in-Err.ensures.err;
        fails = c.in-Err.ensures.fault;
        reports_it = subst note c.cause.ensures c.report_device.ensures.reported;
      });
    }
