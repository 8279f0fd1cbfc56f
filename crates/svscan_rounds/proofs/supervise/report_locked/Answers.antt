use Rattle.std.proofs.Common.{◌++◌, ◌∷◌, [], subst, List, ℕ}
use Rattle.std.specs.Prelude.{codes}
use Rattle.tai_status.specs.Counted.{Reports}
use Rattle.svscan_rounds.specs.Supervise.{locked_report}
use Rattle.svscan_rounds.proofs.Reporting.{reports-one}
use Rattle.svscan_rounds.proofs.supervise.report_locked.Goals as goal

pub returns : goal.returns
returns g c =
    let old = c.args.faults.now in
    let new = c.report_parts.new.faults in
    reports-one (locked_report c.args.folder.now) old new
    (subst (λ (f : List ℕ). Reports old new (codes "supervise: unable to lock " ++ (f ++ 10 ∷ [])))
    c.as_bytes.ensures.value c.report_parts.ensures.reported)
