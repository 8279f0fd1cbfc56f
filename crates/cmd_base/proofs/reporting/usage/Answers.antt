use Rattle.std.proofs.Common.{◌∷◌, ◌++◌, subst, List, ℕ}
use Rattle.std.specs.Prelude.{codes}
use Rattle.tai_status.specs.Counted.{Reports}
use Rattle.cmd_base.proofs.reporting.usage.Goals as goal

pub returns-clause-reported : goal.returns-clause-reported
returns-clause-reported g c =
    subst (λ (t : List ℕ). Reports c.args.faults.now c.report_parts.new.faults (codes "dtools: usage" ++ 10 ∷ t))
    c.page_of.ensures.page c.report_parts.ensures.reported
