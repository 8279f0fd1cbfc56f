use Rattle.std.proofs.Common.{◌≡◌, ℕ, List, rules, subst, sym}
use Rattle.tai_status.specs.Counted.{Reports}
use Rattle.cmd_trace.specs.Traced.{refused_text, trouble_text}
use Rattle.cmd_trace.specs.declared.fault.TraceTrouble.{TraceTrouble}
use Rattle.cmd_trace.proofs.command.report_trouble.Goals as goal

pub returns-in-Refused-clause-reported : goal.returns-in-Refused-clause-reported
returns-in-Refused-clause-reported g c =
    let reports = Reports c.args.faults.now c.report.new.faults in
    let text : c.as_bytes.result.now ≡ refused_text c.in-Refused.fault = search rules in
    subst (λ (trouble : TraceTrouble). reports (trouble_text trouble)) (sym c.in-Refused.is)
    (subst (λ (line : List ℕ). reports line) text c.report.ensures.reported)

pub returns-in-OutOfMemory-clause-reported : goal.returns-in-OutOfMemory-clause-reported
returns-in-OutOfMemory-clause-reported g c =
    subst (λ (trouble : TraceTrouble). Reports c.args.faults.now c.report-in-OutOfMemory.new.faults
    (trouble_text trouble)) (sym c.in-OutOfMemory.is) c.report-in-OutOfMemory.ensures.reported

pub returns-in-Write-clause-reported : goal.returns-in-Write-clause-reported
returns-in-Write-clause-reported g c =
    subst (λ (trouble : TraceTrouble). Reports c.args.faults.now c.report_device.new.faults
    (trouble_text trouble)) (sym c.in-Write.is) c.report_device.ensures.reported
