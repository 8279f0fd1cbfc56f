use Rattle.std.proofs.Common.{rules, ◌<◌, ℕ, List, take, length, sym, subst, false}
use Rattle.cmd_svc.specs.Svc.{Serves, sending}
use Rattle.svc_client.specs.Turns.{InTurn}
use Rattle.cmd_wait.specs.Finding.{awaited}
use Rattle.cmd_wait.specs.Restarting.{restart_bytes, restart_warning, sent_at, sent_to}
use Rattle.cmd_wait.proofs.Sending.{in_turn-both, sent-one}
use Rattle.cmd_wait.proofs.restart.end_each.Goals as goal

pub loop-entry-preserved : goal.loop-entry-preserved
loop-entry-preserved g c =
    let calls = g.S.Services.calls in
    let entries = c.args.entries.now in
    let i = c.loop-entry.entry-index in
    let entry = c.entry-item.result in
    let within : i < length entries = search rules in
    let step = Serves restart_warning restart_bytes in
    let old = sending (calls c.args.services.now) c.args.faults.now false in
    let middle = sending (calls c.loop-entry.services) c.loop-entry.faults c.loop-entry.missed in
    let new = sending (calls c.end_one-missed.new.services) c.end_one-missed.new.faults c.end_one-missed.result in
    let one : InTurn step (sent_at entry.folder.now entry.mark) middle new = c.end_one-missed.ensures in
    subst (λ (done : List (List ℕ)). InTurn step done old new) (sym (sent-one entries i entry within c.entry-item.is))
    (in_turn-both step (sent_to (awaited (take i entries))) (sent_at entry.folder.now entry.mark) old middle new
    c.loop-entry.invariant one)
