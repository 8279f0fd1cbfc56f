use Rattle.std.proofs.Common.{◌++◌, Option, subst, sym}
use Rattle.std.specs.Prelude.{codes}
use Rattle.tai_status.specs.Counted.{Reports, device_note}
use Rattle.tai_status.specs.declared.cause.Cause.{Cause}
use Rattle.cmd_svc.specs.Svstat.{svstat_report}
use Rattle.cmd_svc.specs.declared.svstat.SvstatFault.{SvstatFault}
use Rattle.cmd_svc.proofs.svstat.report_svstat.Goals as goal

pub returns-in-Write-clause-reported : goal.returns-in-Write-clause-reported
returns-in-Write-clause-reported g c =
    let reports = Reports c.args.faults.now c.report_device.new.faults in
    subst (λ (fault : SvstatFault). reports (svstat_report fault c.args.writer.now)) (sym c.in-Write.is)
    (subst (λ (cause : Option Cause). reports (codes "svstat: " ++ (codes "write fault" ++ device_note cause)))
    c.cause.ensures c.report_device.ensures.reported)
