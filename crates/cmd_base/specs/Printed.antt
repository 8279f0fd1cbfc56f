-- Lines that are printed.
use Rattle.std.specs.Prelude.{ℕ, List, [], ◌∷◌, ◌++◌, flat_map}

-- texts, each with a newline
abbrev pub printed : List (List ℕ) → List ℕ
printed texts = flat_map (λ text. text ++ 10 ∷ []) texts
