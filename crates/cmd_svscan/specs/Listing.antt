-- The names that a listing finds.
use Rattle.std.specs.Prelude.{◌≡◌, ◌⊎◌, ⊤, ℕ, ◌+◌, ◌-◌, ◌^◌, min, List, [], ◌∷◌, map, Option, Some, Result, Ok, Err}
use Rattle.std.specs.List.{All}
use Rattle.std.specs.IoError.{error_kind}
use Rattle.std.specs.Iterator.{Drains, YieldsThen}
use Rattle.std.specs.declared.io.Error.{Error}
use Rattle.std.specs.declared.io.ErrorKind.TheVariants.{InvalidFilename, OutOfMemory}

-- the entries that could be read, and how many others there are
abbrev pub read_of : {E F : Type 0} → List (Result E F) → List E
read_of [] = []
read_of (Ok entry ∷ items) = entry ∷ read_of items
read_of (Err fault ∷ items) = read_of items

abbrev pub count_unread : {E F : Type 0} → List (Result E F) → ℕ
count_unread [] = 0
count_unread (Ok entry ∷ items) = count_unread items
count_unread (Err fault ∷ items) = count_unread items + 1

-- The entry could be read, or its name is not text.
abbrev pub IsListed : {E : Type 0} → Result E Error → Type 0
IsListed (Ok entry) = ⊤
IsListed (Err fault) = error_kind fault ≡ InvalidFilename

-- All entries came. These are the names of those that could be read, in order. This many others have a name that is not
-- text, or more if that is the greatest count.
pub record Lists {S E : Type 0} (steps : S → Option (Result E Error) → S → Type 0) (name_of : E → List ℕ) (s : S)
    (names : List (List ℕ)) (unnamed : ℕ) : Type 0 where
  pub items : List (Result E Error)
  pub drains : Drains steps s items
  pub listed : All IsListed items
  pub names_are : names ≡ map name_of (read_of items)
  pub unnamed_are : unnamed ≡ min (count_unread items) (2 ^ 64 - 1)

-- Why names are not listed: there is no memory; or an entry can't be read, and the first such entry has this fault.
abbrev pub IsWhyUnlisted : {S E : Type 0} (steps : S → Option (Result E Error) → S → Type 0) (s : S) (fault : Error)
    → Type 0
IsWhyUnlisted {S = S} {E = E} steps s fault =
    (error_kind fault ≡ OutOfMemory)
    ⊎ ((items : List (Result E Error)) × (u : S) × All IsListed items × YieldsThen steps s items (Some (Err fault)) u)
