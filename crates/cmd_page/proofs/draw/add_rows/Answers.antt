use Rattle.std.proofs.Common.{rules, ◌≡◌, ◌+◌, ◌<◌, ◌++◌, ◌∷◌, ℕ, List, [], take, drop, map, length, get_or, sym, ap}
use Rattle.std.proofs.Common.{◌∙◌, subst, append_assoc, Bor}
use Rattle.svc_client.proofs.Turns.{taken-one, parts-at}
use Rattle.cmd_report.specs.Finds.{FindsFront}
use Rattle.cmd_report.proofs.Finds.{finds_words-then}
use Rattle.cmd_page.specs.PageEnds.{AddsRows, founds_of}
use Rattle.cmd_page.proofs.Grown.{adds_rows-then}
use Rattle.cmd_page.proofs.draw.add_rows.Goals as goal

nowhere : Bor (List ℕ)
nowhere = record { ref_ptr = (0, 0); now = [] }

pub returns-in_err-add_row-clause-err : goal.returns-in_err-add_row-clause-err
unfolding nowhere
returns-in_err-add_row-clause-err g c =
    let folders = c.args.folders.now in
    let i = c.loop-folder.folder-index in
    let now : Bor (List ℕ) → List ℕ = λ word. word.now in
    let within : i < length folders = search rules in
    let folder = now (get_or folders i nowhere) in
    let found = c.find_one-found.result in
    let same : found.folder.now ≡ folder = search rules in
    let done = c.loop-folder.invariant in
    let rest = map now (drop (i + 1) folders) in
    let all = finds_words-then (map now (take i folders)) (founds_of done.rows) folder found
    c.args.observer.now c.loop-folder.observer c.find_one-found.new.observer done.finds same
    c.find_one-found.ensures.finds in
    let front : FindsFront (map now folders) c.args.observer.now c.find_one-found.new.observer = record {
      founds = founds_of done.rows ++ found ∷ [];
      rest = rest;
      words_are = parts-at now folders i nowhere within
          ∙ sym (append_assoc (map now (take i folders)) (folder ∷ []) rest)
          ∙ ap (λ (front : List (List ℕ)). front ++ rest) all.words_are;
      finds = all.finds;
    } in
    search (rules, front)

pub loop-folder-preserved : goal.loop-folder-preserved
unfolding nowhere
loop-folder-preserved g c =
    let folders = c.args.folders.now in
    let i = c.loop-folder.folder-index in
    let now : Bor (List ℕ) → List ℕ = λ word. word.now in
    let within : i < length folders = search rules in
    let known = g.K.Evidence.known c.args.sources.now in
    let folder = now (get_or folders i nowhere) in
    let found = c.find_one-found.result in
    let same : found.folder.now ≡ folder = search rules in
    subst (λ (words : List (List ℕ)). AddsRows known c.args.now.now words c.args.observer.now
    c.find_one-found.new.observer c.args.page.now.items c.add_row.new.page.items)
    (sym (taken-one now folders i nowhere within))
    (adds_rows-then known c.args.now.now (map now (take i folders)) folder c.args.observer.now
    c.loop-folder.observer c.find_one-found.new.observer c.args.page.now.items c.loop-folder.page.items
    c.add_row.new.page.items found c.loop-folder.invariant c.find_one-found.ensures.finds same
    c.in_ok-add_row.ensures)
