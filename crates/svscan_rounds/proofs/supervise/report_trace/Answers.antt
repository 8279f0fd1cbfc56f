use Rattle.std.proofs.Common.{◌++◌, subst, List, ℕ}
use Rattle.std.specs.Prelude.{codes}
use Rattle.tai_status.specs.Counted.{Reports}
use Rattle.svscan_rounds.specs.Rounds.{unable_to_trace}
use Rattle.svscan_rounds.proofs.Reporting.{reports-one}
use Rattle.svscan_rounds.proofs.supervise.report_trace.Goals as goal

pub returns-then-lacks_trace : goal.returns-then-lacks_trace
returns-then-lacks_trace g c =
    let folder = c.args.folder.now in
    let old = c.args.faults.now in
    let new = c.report_parts.new.faults in
    rw c.if-lacks_trace.true
    (reports-one (codes "supervise: " ++ (folder ++ unable_to_trace)) old new
    (subst (λ (f : List ℕ). Reports old new (codes "supervise: " ++ (f ++ unable_to_trace)))
    c.as_bytes.ensures.value c.report_parts.ensures.reported))
