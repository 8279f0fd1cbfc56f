use Rattle.std.proofs.Common.{List, ℕ, ◌++◌, ◌≡◌, subst, rules}
use Rattle.tai_status.specs.Counted.{Reports}
use Rattle.tai_status.specs.Causes.{cause_note}
use Rattle.cmd_envdir.proofs.command.report_unable.Goals as goal

pub returns-clause-reported : goal.returns-clause-reported
returns-clause-reported g c =
    let what = c.args.what.now in
    let reports = λ (text : List ℕ). Reports c.args.faults.now c.report_parts.new.faults (what ++ text) in
    let name : c.as_bytes.result.now ≡ c.args.name.now = search rules in
    let note : c.as_bytes-2.result.now ≡ cause_note c.args.cause = search rules in
    subst (λ (t : List ℕ). reports (c.args.name.now ++ t)) note
    (subst (λ (t : List ℕ). reports (t ++ c.as_bytes-2.result.now)) name c.report_parts.ensures.reported)
