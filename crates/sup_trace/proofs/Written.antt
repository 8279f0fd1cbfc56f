-- The text of a trace, in the order in which it is written.
use Rattle.std.proofs.Common.{◌≡◌, ℕ, List, [], ◌∷◌, ◌++◌, ◌∙◌, append_assoc, append-nil}
use Rattle.std.specs.Prelude.{map, flat_map}
use Rattle.std.proofs.lemmas.List.Concat.{flat_map-append}
use Rattle.std.proofs.lemmas.List.Folds.{flat_map-map}
use Rattle.sup_core.specs.declared.event.Event.{Event}
use Rattle.sup_core.specs.Text.{event_text}

abbrev pub ended : List ℕ → List ℕ
ended line = line ++ 10 ∷ []

-- the lines of the entries of two lists
entry_lines : (xs ys : List Event) → flat_map ended (map event_text (xs ++ ys))
    ≡ flat_map (λ event. ended (event_text event)) xs ++ flat_map (λ event. ended (event_text event)) ys
entry_lines xs ys = flat_map-map ended event_text (xs ++ ys) ∙ flat_map-append (λ event. ended (event_text event)) xs ys

pub lines-written : (header base end : List ℕ) (xs ys : List Event)
    → ((((([] ++ ended header) ++ base) ++ 10 ∷ []) ++ flat_map (λ event. ended (event_text event)) xs)
    ++ flat_map (λ event. ended (event_text event)) ys) ++ end ++ 10 ∷ []
    ≡ flat_map ended (header ∷ base ∷ map event_text (xs ++ ys) ++ end ∷ [])
lines-written header base end xs ys =
    let entries = entry_lines xs ys in
    let last = flat_map-append ended (map event_text (xs ++ ys)) (end ∷ []) in
    simp (last, entries, append_assoc, append-nil)
