use Rattle.std.proofs.Common.{◌++◌, Option, subst}
use Rattle.std.specs.Prelude.{codes}
use Rattle.tai_status.specs.Counted.{Reports, device_note}
use Rattle.tai_status.specs.declared.cause.Cause.{Cause}
use Rattle.cmd_sim.proofs.command.report_fault.Goals as goal

pub returns-in-Read-clause-reported : goal.returns-in-Read-clause-reported
returns-in-Read-clause-reported g c =
    rw c.in-Read.is (subst (λ (cause : Option Cause). Reports c.args.faults.now c.report_device.new.faults
    (codes "sim: " ++ (codes "read fault" ++ device_note cause))) c.cause.ensures
    c.report_device.ensures.reported)

pub returns-in-Write-clause-reported : goal.returns-in-Write-clause-reported
returns-in-Write-clause-reported g c = rw c.in-Write.is c.report_unwritten.ensures.reported

pub returns-in-OutOfMemory-clause-reported : goal.returns-in-OutOfMemory-clause-reported
returns-in-OutOfMemory-clause-reported g c = rw c.in-OutOfMemory.is c.report-in-OutOfMemory.ensures.reported
