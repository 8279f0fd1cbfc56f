-- What is done for words in turn.
use Rattle.std.specs.Prelude.{◌≡◌, ℕ, List, [], ◌∷◌}

-- A step was taken for each word, in the order of the words, and nothing else.
abbrev pub InTurn : {S : Type 0} → (step : List ℕ → S → S → Type 0) → (words : List (List ℕ)) → (old new : S) → Type 0
InTurn step [] old new = new ≡ old
InTurn {S = S} step (word ∷ words) old new = (middle : S) × (step word old middle × InTurn step words middle new)
