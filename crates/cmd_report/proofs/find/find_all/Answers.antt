use Rattle.std.proofs.Common.{rules, ◌≡◌, ◌+◌, ◌<◌, ◌++◌, ◌∷◌, ℕ, List, [], take, drop, map, length, get_or, sym, ap}
use Rattle.std.proofs.Common.{◌∙◌, subst, append_assoc, Bor}
use Rattle.svc_client.proofs.Turns.{taken-one, parts-at}
use Rattle.cmd_report.specs.declared.found.FoundService.{FoundService}
use Rattle.cmd_report.specs.Finds.{FindsWords}
use Rattle.cmd_report.proofs.Finds.{finds_words-then}
use Rattle.cmd_report.proofs.find.find_all.Goals as goal

nowhere : Bor (List ℕ)
nowhere = record { ref_ptr = (0, 0); now = [] }

pub returns-then-is_err-clause-err : goal.returns-then-is_err-clause-err
unfolding nowhere
returns-then-is_err-clause-err g c =
    let folders = c.args.folders.now in
    let i = c.loop-folder.folder-index in
    let now : Bor (List ℕ) → List ℕ = λ word. word.now in
    let within : i < length folders = search rules in
    let folder = now (get_or folders i nowhere) in
    let found = c.find_one-found.result in
    let same : found.folder.now ≡ folder = search rules in
    let old = c.args.observer.now in
    let middle = c.loop-folder.observer in
    let new = c.find_one-found.new.observer in
    let rest = map now (drop (i + 1) folders) in
    let all = finds_words-then (map now (take i folders)) c.loop-folder.founds.items folder found old middle new
    c.loop-folder.invariant same c.find_one-found.ensures.finds in
    record {
      founds = c.loop-folder.founds.items ++ found ∷ [];
      rest = rest;
      words_are = parts-at now folders i nowhere within
          ∙ sym (append_assoc (map now (take i folders)) (folder ∷ []) rest)
          ∙ ap (λ (front : List (List ℕ)). front ++ rest) all.words_are;
      finds = all.finds;
    }

pub loop-folder-preserved : goal.loop-folder-preserved
unfolding nowhere
loop-folder-preserved g c =
    let folders = c.args.folders.now in
    let i = c.loop-folder.folder-index in
    let now : Bor (List ℕ) → List ℕ = λ word. word.now in
    let within : i < length folders = search rules in
    let folder = now (get_or folders i nowhere) in
    let found = c.find_one-found.result in
    let same : found.folder.now ≡ folder = search rules in
    let old = c.args.observer.now in
    let middle = c.loop-folder.observer in
    let new = c.find_one-found.new.observer in
    let all = finds_words-then (map now (take i folders)) c.loop-folder.founds.items folder found old middle new
    c.loop-folder.invariant same c.find_one-found.ensures.finds in
    let pushed : c.push.new.self.items ≡ c.loop-folder.founds.items ++ found ∷ [] = search rules in
    subst (λ (items : List FoundService). FindsWords (map now (take (i + 1) folders)) items old new) (sym pushed)
    (subst (λ (words : List (List ℕ)). FindsWords words (c.loop-folder.founds.items ++ found ∷ []) old new)
    (sym (taken-one now folders i nowhere within)) all)
