use Rattle.std.proofs.Common.{Option, None, Some, subst, inr, refl}
use Rattle.tai_status.specs.Counted.{Reports}
use Rattle.tai_status.specs.declared.cause.Cause.{Cause}
use Rattle.cmd_multilog.specs.Ends.{fault_report}
use Rattle.cmd_multilog.specs.declared.fault.StoreTrouble.{StoreTrouble}
use Rattle.cmd_multilog.proofs.command.run_multilog.Goals as goal

pub returns-in-Ok-run_parts : goal.returns-in-Ok-run_parts
returns-in-Ok-run_parts g c =
    record {
      ends = inr (
        c.in-Ok.script,
        c.in-Ok.ensures.ok,
        inr (record {
          opened = c.open_all.new.store;
          well = c.in-Ok-open_all.ensures.well;
          opens = c.in-Ok-open_all.ensures.ok;
          runs = record {
            ran = None;
            asked = c.in-Ok-run_parts.ensures.stays.asked;
            runs = c.in-Ok-run_parts.ensures.runs;
            status_is = refl;
            reported = refl;
          };
        }),
      );
    }

pub returns : goal.returns
returns g c =
    record {
      ends = inr (
        c.in-Ok.script,
        c.in-Ok.ensures.ok,
        inr (record {
          opened = c.open_all.new.store;
          well = c.in-Ok-open_all.ensures.well;
          opens = c.in-Ok-open_all.ensures.ok;
          runs = record {
            ran = Some c.in-Err-run_parts.fault;
            asked = c.in-Err-run_parts.ensures.stays.asked;
            runs = c.in-Err-run_parts.ensures.runs;
            status_is = c.report_run.ensures.status;
            reported = subst (λ (last : Option StoreTrouble). Reports c.args.faults.now c.report_run.new.faults
                (fault_report c.in-Ok.script (g.I.PartedInput.feed c.run_parts.new.input).device.cause last
                c.in-Err-run_parts.fault)) c.last_trouble.ensures
                (subst (λ (cause : Option Cause). Reports c.args.faults.now c.report_run.new.faults
                (fault_report c.in-Ok.script cause c.last_trouble.result c.in-Err-run_parts.fault))
                c.last_cause.ensures c.report_run.ensures.reported);
          };
        }),
      );
    }
