use Rattle.std.proofs.Common.{rules, ◌≡◌, ◌+◌, ◌<◌, ℕ, List, [], ◌∷◌, ◌++◌, length, take, drop, get_or, sym, ap, ◌∙◌}
use Rattle.std.proofs.Common.{subst, slice_set}
use Rattle.std.proofs.lemmas.List.{take_more_set, map-append}
use Rattle.std.proofs.Math.Seq.{map-set_same}
use Rattle.svc_client.specs.Turns.{InTurn}
use Rattle.svc_client.proofs.Turns.{in_turn-then, parts-at}
use Rattle.cmd_wait.specs.Finding.{awaited, entry_folders}
use Rattle.cmd_wait.specs.Marking.{Marks, marking}
use Rattle.cmd_wait.specs.declared.finding.AwaitedService.{AwaitedService}
use Rattle.cmd_wait.proofs.Looking.{as_service, folder_in}
use Rattle.cmd_wait.proofs.marking.mark_each.Goals as goal

pub loop-at-preserved : goal.loop-at-preserved
loop-at-preserved g c =
    let calls = g.S.Services.calls in
    let items = c.loop-at.entries.items in
    let i = c.loop-at.at in
    let entry = c.index.result.now in
    let within : i < length items = search rules in
    let is : entry ≡ get_or items i entry = c.index.ensures in
    let new : AwaitedService = record { folder = entry.folder; mark = c.in-Ok.mark } in
    let put = slice_set items i new in
    let more : take (i + 1) put ≡ take i items ++ new ∷ [] = take_more_set items i new within in
    let named : entry_folders (take (i + 1) put) ≡ entry_folders (take i items) ++ entry.folder.now ∷ [] =
    ap entry_folders more ∙ map-append folder_in (take i items) (new ∷ []) in
    let marked : awaited (take (i + 1) put) ≡ awaited (take i items) ++ as_service new ∷ [] =
    ap awaited more ∙ map-append (λ (one : AwaitedService). as_service one) (take i items) (new ∷ []) in
    let step = Marks c.args.purpose c.args.awaits_supervision in
    let old = marking (calls c.args.services.now) [] in
    let middle = marking (calls c.loop-at.services) (awaited (take i items)) in
    let now = marking (calls c.first_look.new.services) (awaited (take (i + 1) put)) in
    let one : step entry.folder.now middle now = record {
      mark = c.in-Ok.mark;
      glimpses = rw c.in-Ok.is at c.first_look.ensures;
      marked = marked;
    } in (
      subst (λ (done : List (List ℕ)). InTurn step done old now) (sym named)
          (in_turn-then step (entry_folders (take i items)) entry.folder.now old middle now c.loop-at.invariant.0 one),
      map-set_same folder_in items i new entry (ap folder_in is) ∙ c.loop-at.invariant.1,
      search rules,
    )

pub returns-in-Err-clause-err : goal.returns-in-Err-clause-err
returns-in-Err-clause-err g c =
    let calls = g.S.Services.calls in
    let items = c.loop-at.entries.items in
    let i = c.loop-at.at in
    let entry = c.index.result.now in
    let within : i < length items = search rules in
    let is : entry ≡ get_or items i entry = c.index.ensures in record {
      before = entry_folders (take i items);
      after = entry_folders (drop (i + 1) items);
      middle = calls c.loop-at.services;
      marked = awaited (take i items);
      split = sym c.loop-at.invariant.1 ∙ parts-at folder_in items i entry within
          ∙ ap (λ (f : List ℕ). entry_folders (take i items) ++ f ∷ entry_folders (drop (i + 1) items))
          (sym (ap folder_in is));
      marks = c.loop-at.invariant.0;
      glimpses = rw c.in-Err.is at c.first_look.ensures;
    }
