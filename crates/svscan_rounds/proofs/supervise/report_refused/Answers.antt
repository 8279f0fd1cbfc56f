use Rattle.std.proofs.Common.{rules, ◌≡◌, ◌++◌, subst, List, ℕ}
use Rattle.std.specs.Prelude.{codes}
use Rattle.tai_status.specs.Counted.{Reports}
use Rattle.tai_status.specs.Causes.{cause_note}
use Rattle.svscan_rounds.specs.Supervise.{refused_report}
use Rattle.svscan_rounds.proofs.Reporting.{reports-one}
use Rattle.svscan_rounds.proofs.supervise.report_refused.Goals as goal

pub returns : goal.returns
returns g c =
    let folder = c.args.folder.now in
    let cause = c.args.cause in
    let old = c.args.faults.now in
    let new = c.report_parts.new.faults in
    let what : c.as_bytes-2.result.now ≡ cause_note cause = search rules in
    reports-one (refused_report folder cause) old new
    (subst (λ (t : List ℕ). Reports old new (codes "supervise: unable to supervise " ++ (folder ++ t))) what
    (subst (λ (f : List ℕ). Reports old new (codes "supervise: unable to supervise " ++ (f ++ c.as_bytes-2.result.now)))
    c.as_bytes.ensures.value c.report_parts.ensures.reported))
