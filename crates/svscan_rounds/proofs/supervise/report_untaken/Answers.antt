use Rattle.std.proofs.Common.{rules, ◌≡◌, ◌++◌, ◌==◌, false, subst, List, ℕ, arith}
use Rattle.std.specs.Prelude.{codes}
use Rattle.tai_status.specs.Counted.{Reports}
use Rattle.svscan_rounds.specs.Rounds.{not_taken}
use Rattle.svscan_rounds.proofs.Reporting.{reports-one}
use Rattle.svscan_rounds.proofs.supervise.report_untaken.Goals as goal

pub returns-then-count-gt0 : goal.returns-then-count-gt0
returns-then-count-gt0 g c =
    let folder = c.args.folder.now in
    let count = c.args.count in
    let old = c.args.faults.now in
    let new = c.report_parts.new.faults in
    let text = c.as_bytes-then-count-gt0.result.now in
    let some : (count == 0) ≡ false = grind (arith, c.if-count-gt0.true) in
    let what : text ≡ not_taken count = search rules in
    rw some
    (reports-one (codes "supervise: " ++ (folder ++ not_taken count)) old new
    (subst (λ (t : List ℕ). Reports old new (codes "supervise: " ++ (folder ++ t))) what
    (subst (λ (f : List ℕ). Reports old new (codes "supervise: " ++ (f ++ text)))
    c.as_bytes.ensures.value c.report_parts.ensures.reported)))
