use Rattle.std.proofs.Common.{rules, ◌≡◌, List, ℕ, ◌++◌, subst}
use Rattle.tai_status.specs.Counted.{Reports}
use Rattle.cmd_multilog.specs.Ends.{object_of}
use Rattle.cmd_multilog.specs.Sayings.{call_words, store_note}
use Rattle.cmd_multilog.proofs.command.report_trouble.Goals as goal

pub returns-clause-reported : goal.returns-clause-reported
returns-clause-reported g c =
    let trouble = c.args.trouble in
    let reports = λ (text : List ℕ). Reports c.args.faults.now c.report_parts.new.faults text in
    let note : c.as_bytes.result.now ≡ store_note trouble = search rules in
    let object = object_of c.args.script.now trouble.call in
    subst (λ (t : List ℕ). reports (call_words trouble.call ++ (object ++ t))) note
    (subst (λ (t : List ℕ). reports (call_words trouble.call ++ (t ++ c.as_bytes.result.now))) c.object_of.ensures
    (subst (λ (t : List ℕ). reports (t ++ (c.object_of.result.now ++ c.as_bytes.result.now))) c.call_words.ensures
    c.report_parts.ensures.reported))
