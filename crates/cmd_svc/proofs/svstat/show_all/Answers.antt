use Rattle.std.proofs.Common.{rules, ◌+◌, ◌<◌, ℕ, List, [], take, drop, map, length, get_or, sym, subst, Bor}
use Rattle.svc_client.specs.Turns.{InTurn}
use Rattle.cmd_svc.specs.Svstat.{scene, Shows, ShowsUpTo}
use Rattle.svc_client.proofs.Turns.{in_turn-then, taken-one, parts-at}
use Rattle.cmd_svc.proofs.svstat.show_all.Goals as goal

nowhere : Bor (List ℕ)
nowhere = record { ref_ptr = (0, 0); now = [] }

pub returns-in_err-show-clause-err : goal.returns-in_err-show-clause-err
unfolding nowhere
returns-in_err-show-clause-err g c =
    let folders = c.args.folders.now in
    let i = c.loop-folder.folder-index in
    let now : Bor (List ℕ) → List ℕ = λ word. word.now in
    let within : i < length folders = search rules in
    let old = scene c.args.observer.now c.args.writer.now in
    let new = scene c.show.new.observer c.show.new.writer in
    let form = g.F.LineForm.line_of c.args.form.now in
    let stops : ShowsUpTo form (map now folders) old new c.in_err-show.field-0.0 = record {
      before = map now (take i folders);
      folder = now (get_or folders i nowhere);
      after = map now (drop (i + 1) folders);
      words_are = parts-at now folders i nowhere within;
      middle = scene c.loop-folder.observer c.loop-folder.writer;
      shown = c.loop-folder.invariant;
      fails = c.in_err-show.ensures.err;
    } in
    search (rules, stops)

pub loop-folder-preserved : goal.loop-folder-preserved
unfolding nowhere
loop-folder-preserved g c =
    let folders = c.args.folders.now in
    let i = c.loop-folder.folder-index in
    let now : Bor (List ℕ) → List ℕ = λ word. word.now in
    let within : i < length folders = search rules in
    let old = scene c.args.observer.now c.args.writer.now in
    let middle = scene c.loop-folder.observer c.loop-folder.writer in
    let new = scene c.show.new.observer c.show.new.writer in
    let shows = Shows (g.F.LineForm.line_of c.args.form.now) in
    subst (λ (done : List (List ℕ)). InTurn shows done old new) (sym (taken-one now folders i nowhere within))
    (in_turn-then shows (map now (take i folders)) (now (get_or folders i nowhere)) old middle new
    c.loop-folder.invariant
    c.in_ok-show.ensures.ok)
