-- Names that no file has.
use Rattle.std.specs.Prelude.{◌≡◌, ℕ, List, [], ◌∷◌, ◌++◌}

-- A zero byte ends a name on Linux. Every call that takes a path therefore refuses one that has a zero byte
-- (path_resolution(7)).
abbrev pub EndsWithZero : List ℕ → Type 0
EndsWithZero name = (front : List ℕ) × (name ≡ front ++ 0 ∷ [])
