use Rattle.std.proofs.Common.{rules, ◌<◌, ℕ, List, Some, take, length, sym, subst}
use Rattle.svc_client.specs.Turns.{InTurn}
use Rattle.svc_client.proofs.Turns.{in_turn-then}
use Rattle.cmd_wait.specs.Finding.{entry_folders}
use Rattle.cmd_wait.specs.Watching.{Learns, Learnt, learnt}
use Rattle.cmd_wait.proofs.Looking.{folder_in, folders-to}
use Rattle.cmd_wait.proofs.watch.newest_change.Goals as goal

pub loop-entry-preserved : goal.loop-entry-preserved
loop-entry-preserved g c =
    let calls = g.S.Services.calls in
    let entries = c.args.entries.now in
    let i = c.loop-entry.entry-index in
    let within : i < length entries = search rules in
    let old : Learnt = learnt (Some 0) (calls c.args.services.now) in
    let middle : Learnt = learnt c.loop-entry.newest (calls c.loop-entry.services) in
    let new : Learnt = learnt c.newer-newest.result (calls c.changed_at.new.self) in
    let item = c.entry-item.result in
    let folder = folder_in item in
    let one : Learns folder middle new =
    record { at = c.changed_at.result; newest = c.newer-newest.ensures; calls = search rules } in
    subst (λ (done : List (List ℕ)). InTurn Learns done old new) (sym (folders-to entries i item within c.entry-item.is))
    (in_turn-then Learns (entry_folders (take i entries)) folder old middle new c.loop-entry.invariant one)
