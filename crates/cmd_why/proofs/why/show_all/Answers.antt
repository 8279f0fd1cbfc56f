use Rattle.std.proofs.Common.{rules, ◌+◌, ◌<◌, ℕ, List, [], take, drop, map, length, get_or, sym, subst, false, Bor}
use Rattle.svc_client.specs.Turns.{InTurn}
use Rattle.svc_client.proofs.Turns.{in_turn-then, taken-one, parts-at}
use Rattle.cmd_why.specs.Why.{scene, Shows, ShowsUpTo}
use Rattle.cmd_why.proofs.why.show_all.Goals as goal

nowhere : Bor (List ℕ)
nowhere = record { ref_ptr = (0, 0); now = [] }

pub returns-in_err-unread-clause-err : goal.returns-in_err-unread-clause-err
unfolding nowhere
returns-in_err-unread-clause-err g c =
    let k = g.K.Evidence.known c.args.sources.now in
    let folders = c.args.folders.now in
    let i = c.loop-folder.folder-index in
    let now : Bor (List ℕ) → List ℕ = λ word. word.now in
    let within : i < length folders = search rules in
    let stops : ShowsUpTo k c.args.timeline (map now folders) c.args.observer.now c.show.new.observer c.args.writer.now
    c.show.new.writer c.in_err-unread.field-0.0 = record {
      before = map now (take i folders);
      folder = now (get_or folders i nowhere);
      after = map now (drop (i + 1) folders);
      words_are = parts-at now folders i nowhere within;
      middle = scene c.loop-folder.observer c.loop-folder.writer c.loop-folder.unread;
      shown = c.loop-folder.invariant;
      fails = c.in_err-unread.ensures.err;
    } in
    search (rules, stops)

pub loop-folder-preserved : goal.loop-folder-preserved
unfolding nowhere
loop-folder-preserved g c =
    let k = g.K.Evidence.known c.args.sources.now in
    let folders = c.args.folders.now in
    let i = c.loop-folder.folder-index in
    let now : Bor (List ℕ) → List ℕ = λ word. word.now in
    let within : i < length folders = search rules in
    let old = scene c.args.observer.now c.args.writer.now false in
    let middle = scene c.loop-folder.observer c.loop-folder.writer c.loop-folder.unread in
    let new = scene c.show.new.observer c.show.new.writer c.in_ok-unread.unread in
    subst (λ (done : List (List ℕ)). InTurn (Shows k c.args.timeline) done old new)
    (sym (taken-one now folders i nowhere within))
    (in_turn-then (Shows k c.args.timeline) (map now (take i folders)) (now (get_or folders i nowhere)) old middle new
    c.loop-folder.invariant
    c.in_ok-unread.ensures.ok)
