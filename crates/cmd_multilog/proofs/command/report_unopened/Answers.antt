use Rattle.std.proofs.Common.{rules, ◌≡◌, List, ℕ, ◌++◌, subst}
use Rattle.std.specs.Prelude.{codes, slice_get, unwrap_or, []}
use Rattle.tai_status.specs.Counted.{Reports}
use Rattle.cmd_multilog.specs.Opening.{folders_of}
use Rattle.cmd_multilog.specs.Sayings.{open_note}
use Rattle.cmd_multilog.proofs.command.report_unopened.Goals as goal

pub returns-in-Unopened-clause-reported : goal.returns-in-Unopened-clause-reported
returns-in-Unopened-clause-reported g c =
    let reports = λ (text : List ℕ). Reports c.args.faults.now c.report_parts.new.faults
    (codes "multilog: unable to open " ++ text) in
    let note : c.as_bytes.result.now ≡ open_note c.in-Unopened.cause = search rules in
    let folder = unwrap_or (slice_get (folders_of c.args.script.now) c.in-Unopened.log) [] in
    rw c.in-Unopened.is (subst (λ (t : List ℕ). reports (folder ++ t)) note
    (subst (λ (t : List ℕ). reports (t ++ c.as_bytes.result.now)) c.folder_of.ensures c.report_parts.ensures.reported))

pub returns-in-OutOfMemory-clause-reported : goal.returns-in-OutOfMemory-clause-reported
returns-in-OutOfMemory-clause-reported g c = rw c.in-OutOfMemory.is c.report.ensures.reported
