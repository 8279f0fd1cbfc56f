use Rattle.std.proofs.Common.{◌++◌, Option, subst}
use Rattle.std.specs.Prelude.{codes}
use Rattle.tai_status.specs.Counted.{Reports, device_note}
use Rattle.tai_status.specs.declared.cause.Cause.{Cause}
use Rattle.cmd_filters.proofs.proctitle.report_untitled.Goals as goal

pub returns-in-Read-clause-reported : goal.returns-in-Read-clause-reported
returns-in-Read-clause-reported g c =
    rw c.in-Read.is (subst (λ (cause : Option Cause). Reports c.args.faults.now c.report_device.new.faults
    (codes "readproctitle: " ++ (codes "read fault" ++ device_note cause))) c.cause.ensures
    c.report_device.ensures.reported)

pub returns-in-Write-clause-reported : goal.returns-in-Write-clause-reported
returns-in-Write-clause-reported g c =
    rw c.in-Write.is (subst (λ (cause : Option Cause). Reports c.args.faults.now c.report_device-in-Write.new.faults
    (codes "readproctitle: " ++ (codes "write fault" ++ device_note cause))) c.cause-in-Write.ensures
    c.report_device-in-Write.ensures.reported)
