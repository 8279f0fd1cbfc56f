use Rattle.std.proofs.Common.{rules, ◌≡◌, ◌∙◌, ◌+◌, ◌<◌, ℕ, List, [], ◌∷◌, ◌++◌, take, length, ap, sym, subst, false}
use Rattle.std.proofs.lemmas.List.{take_more}
use Rattle.svc_client.specs.Turns.{InTurn}
use Rattle.cmd_svc.specs.Svc.{sending, Serves, svc_warning}
use Rattle.svc_client.proofs.Turns.{in_turn-then}
use Rattle.cmd_svc.proofs.svc.serve_each.Goals as goal

pub loop-name-preserved : goal.loop-name-preserved
loop-name-preserved g c =
    let names = c.args.names.now in
    let i = c.loop-name.name-index in
    let bytes = c.args.bytes.now in
    let old = sending (g.S.Services.calls c.args.services.now) c.args.faults.now false in
    let middle = sending (g.S.Services.calls c.loop-name.services) c.loop-name.faults c.loop-name.missed in
    let new = sending (g.S.Services.calls c.serve-missed.new.services) c.serve-missed.new.faults
    c.serve-missed.result in
    let name = c.as_str.result.now in
    let within : i < length names = search rules in
    let is : take (i + 1) names ≡ take i names ++ name ∷ [] =
    take_more names i c.name-item.result within
    ∙ ap (λ (n : List ℕ). take i names ++ n ∷ []) (sym (c.as_str.ensures ∙ c.name-item.is)) in
    subst (λ (done : List (List ℕ)). InTurn (Serves svc_warning bytes) done old new) (sym is)
    (in_turn-then (Serves svc_warning bytes) (take i names) name old middle new c.loop-name.invariant c.serve-missed.ensures)
