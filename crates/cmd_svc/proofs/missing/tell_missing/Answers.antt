use Rattle.std.proofs.Common.{rules, ◌<◌, ℕ, List, [], take, map, length, get_or, sym, subst, Bor}
use Rattle.cmd_svc.specs.Missing.{TellsEach, TellsMissing, telling}
use Rattle.svc_client.proofs.Turns.{in_turn-then, taken-one}
use Rattle.cmd_svc.proofs.missing.tell_missing.Goals as goal

nowhere : Bor (List ℕ)
nowhere = record { ref_ptr = (0, 0); now = [] }

pub loop-folder-preserved : goal.loop-folder-preserved
unfolding nowhere
loop-folder-preserved g c =
    let folders = c.args.folders.now in
    let i = c.loop-folder.folder-index in
    let now : Bor (List ℕ) → List ℕ = λ word. word.now in
    let within : i < length folders = search rules in
    let calls = g.S.Services.calls in
    let old = telling (calls c.args.services.now) c.args.faults.now in
    let middle = telling (calls c.loop-folder.services) c.loop-folder.faults in
    let new = telling (calls c.tell_one.new.services) c.tell_one.new.faults in
    subst (λ (done : List (List ℕ)). TellsEach c.args.command.now done old new)
    (sym (taken-one now folders i nowhere within))
    (in_turn-then (TellsMissing c.args.command.now) (map now (take i folders)) (now (get_or folders i nowhere)) old
    middle new c.loop-folder.invariant c.tell_one.ensures)
