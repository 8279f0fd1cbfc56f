-- What is sent before a restart is waited for, and the marks of services.
use Rattle.std.proofs.Common.{◌≡◌, ℕ, ◌+◌, ◌<◌, List, [], ◌∷◌, ◌++◌, length, take, get_or}
use Rattle.std.proofs.Common.{refl, sym, ap, ◌∙◌, subst, append-nil}
use Rattle.std.proofs.lemmas.List.{map-append, take_more}
use Rattle.std.proofs.lemmas.Grind.{flat_map-append}
use Rattle.svc_client.specs.Turns.{InTurn}
use Rattle.cmd_wait.specs.Finding.{Awaited, awaited, entry_folders, folders, unmarked}
use Rattle.cmd_wait.specs.Restarting.{sent_at, sent_to}
use Rattle.cmd_wait.specs.declared.finding.AwaitedService.{AwaitedService}
use Rattle.cmd_wait.proofs.Looking.{as_service, folder_in, folders-awaited}

-- steps after steps
pub in_turn-both : {S : Type 0} (step : List ℕ → S → S → Type 0) (first rest : List (List ℕ)) (old middle new : S)
    → InTurn step first old middle → InTurn step rest middle new → InTurn step (first ++ rest) old new
in_turn-both {S} step [] rest old middle new done more = subst (λ (s : S). InTurn step rest s new) done more
in_turn-both {S} step (word ∷ first) rest old middle new done more =
    (done.0, (done.1.0, in_turn-both step first rest done.0 middle new done.1.1 more))

-- the services up to a place, with the one there
pub awaited-one : (entries : List AwaitedService) (i : ℕ) (d : AwaitedService) → i < length entries
    → awaited (take (i + 1) entries) ≡ awaited (take i entries) ++ as_service (get_or entries i d) ∷ []
awaited-one entries i d within =
    ap awaited (take_more entries i d within)
    ∙ map-append (λ (entry : AwaitedService). as_service entry) (take i entries) (get_or entries i d ∷ [])

-- what is sent to the services up to a place, with the one there
pub sent-one : (entries : List AwaitedService) (i : ℕ) (d : AwaitedService) → i < length entries
    → d ≡ get_or entries i d
    → sent_to (awaited (take (i + 1) entries)) ≡ sent_to (awaited (take i entries)) ++ sent_at (folder_in d) d.mark
sent-one entries i d within is =
    let sent : Awaited → List (List ℕ) = λ one. sent_at one.folder one.mark in
    let before = sent_to (awaited (take i entries)) in
    let last = as_service (get_or entries i d) in
    ap sent_to (awaited-one entries i d within)
    ∙ flat_map-append sent (awaited (take i entries)) (last ∷ [])
    ∙ ap (λ (l : List (List ℕ)). before ++ l) (append-nil (sent last))
    ∙ ap (λ (one : AwaitedService). before ++ sent (as_service one)) (sym is)

folders-unmarked : (names : List (List ℕ)) → folders (unmarked names) ≡ names
folders-unmarked [] = refl
folders-unmarked (name ∷ names) = ap (λ (l : List (List ℕ)). name ∷ l) (folders-unmarked names)

-- the folders of entries for these names
pub folders-given : (entries : List AwaitedService) (names : List (List ℕ)) → awaited entries ≡ unmarked names
    → entry_folders entries ≡ names
folders-given entries names given =
    sym (folders-awaited entries) ∙ ap folders given ∙ folders-unmarked names
