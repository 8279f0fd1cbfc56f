-- Calls and steps, one after the other.
use Rattle.std.proofs.Common.{◌≡◌, ℕ, ◌+◌, ◌<◌, List, [], ◌∷◌, ◌++◌, length, map, take, drop, get_or, Option, Some}
use Rattle.std.proofs.Common.{None, refl, sym, ap, ◌∙◌, subst, append_assoc, add-one, Bool, true, false, not}
use Rattle.std.proofs.lemmas.List.{take_more, take-append-drop, map-append}
use Rattle.std.proofs.Math.Seq.{drop-cons}
use Rattle.svc_client.specs.Calls.{Call}
use Rattle.tai_status.specs.Extended.{Extended}
use Rattle.svc_client.specs.Turns.{InTurn}

-- calls after calls
pub extended-then : (a b c : Option (List Call)) (first rest : List Call) → Extended a b first → Extended b c rest
    → Extended a c (first ++ rest)
extended-then None b c first rest h k = tt
extended-then (Some a) None c first rest h k = absurd h
extended-then (Some a) (Some b) None first rest h k = absurd k
extended-then (Some a) (Some b) (Some c) first rest h k =
    k ∙ ap (λ (t : List Call). t ++ rest) h ∙ append_assoc a first rest

-- one more step
pub in_turn-then : {S : Type 0} (step : List ℕ → S → S → Type 0) (words : List (List ℕ)) (word : List ℕ)
    (old middle new : S)
    → InTurn step words old middle → step word middle new → InTurn step (words ++ word ∷ []) old new
in_turn-then {S} step [] word old middle new done one = (new, (subst (λ (s : S). step word s new) done one, refl))
in_turn-then {S} step (first ∷ words) word old middle new done one =
    (done.0, (done.1.0, in_turn-then step words word done.0 middle new done.1.1 one))

-- The items up to a place, with the one there
pub taken-one : {X : Type 0} (f : X → List ℕ) (xs : List X) (i : ℕ) (d : X) → i < length xs
    → map f (take (i + 1) xs) ≡ map f (take i xs) ++ f (get_or xs i d) ∷ []
taken-one {X} f xs i d within =
    ap (λ (t : List X). map f t) (take_more xs i d within) ∙ map-append f (take i xs) (get_or xs i d ∷ [])

-- The items before a place, the one there, and those after it
pub parts-at : {X : Type 0} (f : X → List ℕ) (xs : List X) (i : ℕ) (d : X) → i < length xs
    → map f xs ≡ map f (take i xs) ++ f (get_or xs i d) ∷ map f (drop (i + 1) xs)
parts-at {X} f xs i d within =
    let rest : drop i xs ≡ get_or xs i d ∷ drop (i + 1) xs = rw add-one (drop-cons xs i d within) in
    ap (λ (t : List X). map f t) (sym (take-append-drop i xs)) ∙ map-append f (take i xs) (drop i xs)
    ∙ ap (λ (t : List X). map f (take i xs) ++ map f t) rest

pub not-not : (b : Bool) → b ≡ not (not b)
not-not true = refl
not-not false = refl
