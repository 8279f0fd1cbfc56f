use Rattle.std.proofs.Common.{◌++◌, Option, subst}
use Rattle.std.specs.Prelude.{codes}
use Rattle.tai_status.specs.Counted.{Reports, device_note}
use Rattle.tai_status.specs.declared.cause.Cause.{Cause}
use Rattle.cmd_sim.proofs.command.report_unwritten.Goals as goal

pub returns-clause-reported : goal.returns-clause-reported
returns-clause-reported g c =
    subst (λ (cause : Option Cause). Reports c.args.faults.now c.report_device.new.faults
    (codes "sim: " ++ (codes "write fault" ++ device_note cause))) c.cause.ensures c.report_device.ensures.reported
