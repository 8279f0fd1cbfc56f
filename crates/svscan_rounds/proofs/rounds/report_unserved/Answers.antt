use Rattle.std.proofs.Common.{rules, ◌≡◌, subst, List, ℕ}
use Rattle.std.specs.Prelude.{codes}
use Rattle.tai_status.specs.Counted.{Reports}
use Rattle.svscan_rounds.specs.Rounds.{name_report, unable_to_supervise}
use Rattle.svscan_rounds.proofs.Reporting.{reports-one}
use Rattle.svscan_rounds.proofs.rounds.report_unserved.Goals as goal

pub returns : goal.returns
returns g c =
    let cause = c.args.cause in
    let old = c.args.faults.now in
    let new = c.report_parts.new.faults in
    let text = c.as_bytes.result.now in
    let what : text ≡ unable_to_supervise cause = search rules in
    reports-one (name_report (unable_to_supervise cause) (codes ".svscan")) old new
    (subst (λ (t : List ℕ). Reports old new (name_report t (codes ".svscan"))) what c.report_parts.ensures.reported)
