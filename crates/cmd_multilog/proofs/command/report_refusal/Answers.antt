use Rattle.std.proofs.Common.{List, ℕ, subst, rules, ◌≡◌}
use Rattle.tai_status.specs.Counted.{Reports}
use Rattle.cmd_multilog.specs.Sayings.{script_report}
use Rattle.cmd_multilog.proofs.command.report_refusal.Goals as goal

pub returns-in-Refused-clause-reported : goal.returns-in-Refused-clause-reported
returns-in-Refused-clause-reported g c =
    let is : c.as_bytes.result.now ≡ script_report c.in-Refused.fault = search rules in
    rw c.in-Refused.is (subst (λ (t : List ℕ). Reports c.args.faults.now c.report.new.faults t) is
    c.report.ensures.reported)

pub returns-in-OutOfMemory-clause-reported : goal.returns-in-OutOfMemory-clause-reported
returns-in-OutOfMemory-clause-reported g c = rw c.in-OutOfMemory.is c.report-in-OutOfMemory.ensures.reported
