use Rattle.std.proofs.Common.{rules, ◌≡◌, ℕ, List, ◌++◌, Some, refl, subst}
use Rattle.tai_status.specs.Counted.{Reports}
use Rattle.cmd_svc.specs.Svc.{reason}
use Rattle.cmd_svc.proofs.svc.serve.Goals as goal

pub returns-in-Err : goal.returns-in-Err
returns-in-Err g c =
    let reports = λ (text : List ℕ). Reports c.args.faults.now c.report_parts.new.faults
    (c.args.warning.now ++ text) in
    let folder : c.as_bytes.result.now ≡ c.args.folder.now = search rules in
    let said : c.reason.result.now ≡ reason c.in-Err.why = search rules in
    record {
      fault = Some c.in-Err.why;
      sent = search rules;
      reported = subst (λ (text : List ℕ). reports (c.args.folder.now ++ text)) said
          (subst (λ (text : List ℕ). reports (text ++ c.reason.result.now)) folder c.report_parts.ensures.reported);
      missed = refl;
    }
