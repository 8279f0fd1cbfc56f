use Rattle.std.proofs.Common.{rules, ◌<◌, ◌≡◌, ℕ, List, take, length, sym, subst}
use Rattle.tai_status.specs.Counted.{Reports}
use Rattle.svc_client.specs.Turns.{InTurn}
use Rattle.svc_client.proofs.Turns.{in_turn-then}
use Rattle.cmd_wait.specs.Finding.{entry_folders}
use Rattle.cmd_wait.specs.Ends.{ReportsOver, over_note, report_of}
use Rattle.cmd_wait.proofs.Looking.{folder_in, folders-to}
use Rattle.cmd_wait.proofs.sayings.report_over.Goals as goal

pub loop-entry-preserved : goal.loop-entry-preserved
loop-entry-preserved g c =
    let left = c.args.left.now in
    let i = c.loop-entry.entry-index in
    let command = c.args.command.now in
    let within : i < length left = search rules in
    let old = c.args.faults.now in
    let middle = c.loop-entry.faults in
    let new = c.report_parts.new.faults in
    let item = c.entry-item.result in
    let folder = folder_in item in
    let text : c.as_bytes-folder.result.now ≡ folder = search rules in
    let note : c.over_note.result.now ≡ over_note c.args.state = search rules in
    let reported : Reports middle new (report_of command folder (over_note c.args.state)) =
    subst (λ (bytes : List ℕ). Reports middle new (report_of command folder bytes)) note
    (subst (λ (bytes : List ℕ). Reports middle new (report_of command bytes c.over_note.result.now)) text
    c.report_parts.ensures.reported) in
    let step = ReportsOver command c.args.state in
    subst (λ (done : List (List ℕ)). InTurn step done old new) (sym (folders-to left i item within c.entry-item.is))
    (in_turn-then step (entry_folders (take i left)) folder old middle new c.loop-entry.invariant reported)
