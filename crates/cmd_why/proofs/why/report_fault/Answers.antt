use Rattle.std.proofs.Common.{◌++◌, Option, subst, sym}
use Rattle.std.specs.Prelude.{codes}
use Rattle.tai_status.specs.Counted.{Reports, device_note}
use Rattle.tai_status.specs.declared.cause.Cause.{Cause}
use Rattle.cmd_why.specs.Why.{why_report}
use Rattle.cmd_why.specs.declared.why.WhyFault.{WhyFault}
use Rattle.cmd_why.proofs.why.report_fault.Goals as goal

pub returns-in-Write-clause-reported : goal.returns-in-Write-clause-reported
returns-in-Write-clause-reported g c =
    let reports = Reports c.args.faults.now c.report_device.new.faults in
    subst (λ (fault : WhyFault). reports (why_report fault c.args.writer.now)) (sym c.in-Write.is)
    (subst (λ (cause : Option Cause). reports (codes "why: " ++ (codes "write fault" ++ device_note cause)))
    c.cause.ensures c.report_device.ensures.reported)

pub returns-in-OutOfMemory-clause-reported : goal.returns-in-OutOfMemory-clause-reported
returns-in-OutOfMemory-clause-reported g c =
    let reports = Reports c.args.faults.now c.report.new.faults in
    subst (λ (fault : WhyFault). reports (why_report fault c.args.writer.now)) (sym c.in-OutOfMemory.is)
    c.report.ensures.reported
