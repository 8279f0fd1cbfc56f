use Rattle.std.proofs.Common.{List, ℕ, ◌++◌, ◌≡◌, subst, rules}
use Rattle.std.specs.Prelude.{codes}
use Rattle.tai_status.specs.Counted.{Reports}
use Rattle.tai_status.specs.Causes.{cause_note}
use Rattle.cmd_trace.proofs.command.report_unread.Goals as goal

pub returns-clause-reported : goal.returns-clause-reported
returns-clause-reported g c =
    let reports = λ (text : List ℕ). Reports c.args.faults.now c.report_parts.new.faults
    (codes "trace: unable to read " ++ text) in
    let file : c.as_bytes.result.now ≡ c.args.file.now = search rules in
    let note : c.as_bytes-2.result.now ≡ cause_note c.args.cause = search rules in
    subst (λ (t : List ℕ). reports (c.args.file.now ++ t)) note
    (subst (λ (t : List ℕ). reports (t ++ c.as_bytes-2.result.now)) file c.report_parts.ensures.reported)
