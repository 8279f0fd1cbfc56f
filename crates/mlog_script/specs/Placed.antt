-- The items of a list, each with the items before it.
use Rattle.std.specs.Prelude.{List, [], ◌∷◌, ◌++◌, Option, None}
use Rattle.std.specs.List.{filter_map, last_or}

-- an item, and all items before it
pub record Placed (X : Type 0) : Type 0 where
  pub before : List X
  pub item : X

-- items that come after others
abbrev pub placed_behind : {X : Type 0} → List X → List X → List (Placed X)
placed_behind before [] = []
placed_behind before (item ∷ items) =
    record { before = before; item = item } ∷ placed_behind (before ++ item ∷ []) items

abbrev pub placed : {X : Type 0} → List X → List (Placed X)
placed items = placed_behind [] items

-- the last result of f, among those that f has for the items
abbrev pub last_given : {X Y : Type 0} → (X → Option Y) → List X → Option Y
last_given f items = last_or None (filter_map f items)
