-- Looks at services, one after the other.
use Rattle.std.proofs.Common.{rules, ◌≡◌, ℕ, ◌+◌, ◌<◌, ◌≤◌, List, [], ◌∷◌, ◌++◌, length, take, drop, get_or, flat_map}
use Rattle.std.proofs.Common.{Option, Some, None, refl, sym, ap, ◌∙◌, subst, append_assoc, append-nil, add-one}
use Rattle.std.proofs.Common.{arith}
use Rattle.std.proofs.lemmas.List.{map-append, take_more, take-append-le, length-take-le, take-append-drop}
use Rattle.std.proofs.lemmas.List.Elements.{All-push}
use Rattle.std.proofs.lemmas.Grind.{flat_map-append}
use Rattle.std.proofs.Math.Seq.{drop-cons, drop-append_seam, take-length, drop-length}
use Rattle.tai_status.specs.Extended.{Extended}
use Rattle.svc_client.specs.Calls.{Call}
use Rattle.svc_client.proofs.Turns.{extended-then, taken-one}
use Rattle.cmd_wait.specs.Finding.{Awaited, awaited, service, folders, entry_folders, calls_of_look, finding_of, Finds}
use Rattle.cmd_wait.specs.Rounds.{Look, LooksAt, GoesOn, seen, calls_of, left_at, left_by}
use Rattle.cmd_wait.specs.declared.finding.Goal.{Goal}
use Rattle.cmd_wait.specs.declared.finding.AwaitedService.{AwaitedService}
use Rattle.cmd_wait.specs.declared.finding.Finding.{Finding}
use Rattle.cmd_wait.specs.declared.finding.Finding.TheVariants.{Reached, Waiting}

flat_map-push : {X A : Type 0} (f : X → List A) (xs : List X) (x : X) → flat_map f (xs ++ x ∷ []) ≡ flat_map f xs ++ f x
flat_map-push f xs x = flat_map-append f xs (x ∷ []) ∙ ap (λ l. flat_map f xs ++ l) (append-nil (f x))

-- the folder of an entry; and an entry as a service
abbrev pub folder_in : AwaitedService → List ℕ
folder_in entry = entry.folder.now

abbrev pub as_service : AwaitedService → Awaited
as_service entry = service entry.folder.now entry.mark

pub folders-awaited : (entries : List AwaitedService) → folders (awaited entries) ≡ entry_folders entries
folders-awaited [] = refl
folders-awaited (entry ∷ entries) = ap (λ (l : List (List ℕ)). entry.folder.now ∷ l) (folders-awaited entries)

-- the folders up to a place, with the one there
pub folders-to : (entries : List AwaitedService) (i : ℕ) (d : AwaitedService) → i < length entries
    → d ≡ get_or entries i d
    → entry_folders (take (i + 1) entries) ≡ entry_folders (take i entries) ++ folder_in d ∷ []
folders-to entries i d within is =
    taken-one folder_in entries i d within
    ∙ ap (λ (one : AwaitedService). entry_folders (take i entries) ++ folder_in one ∷ []) (sym is)

pub extended-none : (a : Option (List Call)) → Extended a a []
extended-none None = tt
extended-none (Some a) = sym (append-nil a)

-- one more look, at a service that did not fail
pub looks-on : (goal : Goal) (services left : List Awaited) (it : Awaited) (after : List Awaited)
    (finding : Finding)
    (a b c : Option (List Call)) → LooksAt goal services left (it ∷ after) a b → Finds goal it finding b c
    → GoesOn finding
    → LooksAt goal services (left ++ left_at it finding) after a c
looks-on goal services left it after finding a b c h f on =
    let look : Look = record { service = it; sighting = f.sighting; says = f.says } in
    let P : Look → Type 0 = λ one. GoesOn (finding_of goal one.service.mark one.sighting) in
    let lefts : Look → List Awaited = λ one. left_at one.service (finding_of goal one.service.mark one.sighting) in
    let calls : Look → List Call = λ one. calls_of_look goal one.service.folder one.sighting in
    let name : Look → Awaited = λ one. one.service in
    let split : seen h.looks ++ it ∷ after ≡ seen (h.looks ++ look ∷ []) ++ after =
    sym (ap (λ (l : List Awaited). l ++ after) (map-append name h.looks (look ∷ []))
    ∙ append_assoc (seen h.looks) (it ∷ []) after) in record {
      looks = h.looks ++ look ∷ [];
      split = h.split ∙ split;
      goes_on = All-push P h.looks look h.goes_on (subst GoesOn f.is on);
      left_is = ap (λ (l : List Awaited). l ++ left_at it finding) h.left_is
          ∙ ap (λ (one : Finding). left_by goal h.looks ++ left_at it one) f.is
          ∙ sym (flat_map-push lefts h.looks look);
      calls = subst (λ (l : List Call). Extended a c l) (sym (flat_map-push calls h.looks look))
          (extended-then a b c (calls_of goal h.looks) (calls_of_look goal it.folder f.sighting) h.calls f.calls);
    }

-- the words from a place on
pub services-at : (items : List AwaitedService) (i : ℕ) (d : AwaitedService) → i < length items → d ≡ get_or items i d
    → awaited (drop i items) ≡ as_service d ∷ awaited (drop (i + 1) items)
services-at items i d within is =
    let cons : drop i items ≡ get_or items i d ∷ drop (i + 1) items = rw add-one (drop-cons items i d within) in
    ap awaited cons ∙ ap (λ (one : AwaitedService). as_service one ∷ awaited (drop (i + 1) items)) (sym is)

-- the words up to a place, with the one there
pub services-to : (items : List AwaitedService) (i : ℕ) (d : AwaitedService) → i < length items → d ≡ get_or items i d
    → awaited (take (i + 1) items) ≡ awaited (take i items) ++ as_service d ∷ []
services-to items i d within is =
    ap awaited (take_more items i d within)
    ∙ map-append (λ (one : AwaitedService). as_service one) (take i items) (get_or items i d ∷ [])
    ∙ ap (λ (one : AwaitedService). awaited (take i items) ++ as_service one ∷ []) (sym is)

-- a list without the item at a place: up to that place, and from there on
pub taken-without : (items : List AwaitedService) (i : ℕ) → i < length items
    → take i (take i items ++ drop (i + 1) items) ≡ take i items
taken-without items i within =
    let bound : i ≤ length items = omega arith in
    let long : length (take i items) ≡ i = length-take-le i items bound in
    let whole : take i (take i items ++ drop (i + 1) items) ≡ take i (take i items) =
    take-append-le i (take i items) (drop (i + 1) items) (omega (arith, long)) in
    whole ∙ sym (take-append-le i (take i items) (drop i items) (omega (arith, long)))
    ∙ ap (λ (l : List AwaitedService). take i l) (take-append-drop i items)

pub dropped-without : (items : List AwaitedService) (i : ℕ) → i < length items
    → drop i (take i items ++ drop (i + 1) items) ≡ drop (i + 1) items
dropped-without items i within =
    let long : length (take i items) ≡ i = length-take-le i items (omega arith) in
    ap (λ (n : ℕ). drop n (take i items ++ drop (i + 1) items)) (sym long)
    ∙ drop-append_seam (take i items) (drop (i + 1) items)

-- Over the words that references lead to, from a place on

pub looks-none : (goal : Goal) (items : List AwaitedService) (a : Option (List Call))
    → LooksAt goal (awaited items) (awaited (take 0 items)) (awaited (drop 0 items)) a a
looks-none goal items a = record {
  looks = [];
  split = refl;
  goes_on = search rules;
  left_is = refl;
  calls = extended-none a;
}

-- The next service is the one at the place.
pub looks-here : (goal : Goal) (services : List Awaited) (items : List AwaitedService) (i : ℕ) (d : AwaitedService)
    (a b : Option (List Call))
    → i < length items → d ≡ get_or items i d → LooksAt goal services (awaited (take i items)) (awaited (drop i items)) a b
    → LooksAt goal services (awaited (take i items)) (as_service d ∷ awaited (drop (i + 1) items)) a b
looks-here goal services items i d a b within is h =
    subst (λ (after : List Awaited). LooksAt goal services (awaited (take i items)) after a b)
    (services-at items i d within is) h

-- It is as it should be, and is taken out.
pub looks-reached : (goal : Goal) (services : List Awaited) (items new : List AwaitedService) (i : ℕ)
    (d : AwaitedService) (a b c : Option (List Call))
    → i < length items → d ≡ get_or items i d → new ≡ take i items ++ drop (i + 1) items
    → LooksAt goal services (awaited (take i items)) (awaited (drop i items)) a b → Finds goal (as_service d) Reached b c
    → LooksAt goal services (awaited (take i new)) (awaited (drop i new)) a c
looks-reached goal services items new i d a b c within is without h f =
    let one = looks-on goal services (awaited (take i items)) (as_service d) (awaited (drop (i + 1) items)) Reached a b c
    (looks-here goal services items i d a b within is h) f tt in
    let left : awaited (take i items) ++ [] ≡ awaited (take i new) =
    append-nil (awaited (take i items))
    ∙ ap awaited (sym (ap (λ (l : List AwaitedService). take i l) without ∙ taken-without items i within)) in
    let after : awaited (drop (i + 1) items) ≡ awaited (drop i new) =
    ap awaited (sym (ap (λ (l : List AwaitedService). drop i l) without ∙ dropped-without items i within)) in
    subst (λ (l : List Awaited). LooksAt goal services l (awaited (drop i new)) a c) left
    (subst (λ (l : List Awaited). LooksAt goal services (awaited (take i items) ++ []) l a c) after one)

-- It is not yet as it should be, and is left.
pub looks-waiting : (goal : Goal) (services : List Awaited) (items : List AwaitedService) (i : ℕ) (d : AwaitedService)
    (a b c : Option (List Call))
    → i < length items → d ≡ get_or items i d
    → LooksAt goal services (awaited (take i items)) (awaited (drop i items)) a b → Finds goal (as_service d) Waiting b c
    → LooksAt goal services (awaited (take (i + 1) items)) (awaited (drop (i + 1) items)) a c
looks-waiting goal services items i d a b c within is h f =
    subst (λ (l : List Awaited). LooksAt goal services l (awaited (drop (i + 1) items)) a c)
    (sym (services-to items i d within is))
    (looks-on goal services (awaited (take i items)) (as_service d) (awaited (drop (i + 1) items)) Waiting a b c
    (looks-here goal services items i d a b within is h) f tt)

-- All were looked at.
pub looks-all : (goal : Goal) (services : List Awaited) (items : List AwaitedService) (i : ℕ)
    (a b : Option (List Call)) → i ≡ length items
    → LooksAt goal services (awaited (take i items)) (awaited (drop i items)) a b
    → LooksAt goal services (awaited items) [] a b
looks-all goal services items i a b all h =
    let left : take i items ≡ items = ap (λ (n : ℕ). take n items) all ∙ take-length items in
    let after : drop i items ≡ [] = ap (λ (n : ℕ). drop n items) all ∙ drop-length items in
    subst (λ (l : List AwaitedService). LooksAt goal services (awaited l) [] a b) left
    (subst (λ (l : List AwaitedService). LooksAt goal services (awaited (take i items)) (awaited l) a b) after h)
