-- How the names in a folder are listed.
use Rattle.std.specs.Prelude.{◌≡◌, ◌⊎◌, ℕ, ◌==◌, Bool, true, not, List, [], ◌∷◌, map, Option, Some, Result, Ok, Err}
use Rattle.std.specs.List.{filter}
use Rattle.std.specs.IoError.{error_kind}
use Rattle.std.specs.Iterator.{Drains, YieldsThen}
use Rattle.std.specs.declared.io.Error.{Error}
use Rattle.std.specs.declared.io.ErrorKind.TheVariants.{OutOfMemory}

-- whether a name does not begin with a dot
abbrev pub is_visible : List ℕ → Bool
is_visible [] = true
is_visible (first ∷ rest) = not (first == 46)

-- All entries came, and each could be read. These are their names, in order, without those that begin with a dot.
abbrev pub ListsVisible : {S E F : Type 0} (steps : S → Option (Result E F) → S → Type 0) (name_of : E → List ℕ) (s : S)
    (names : List (List ℕ)) → Type 0
ListsVisible {E = E} steps name_of s names =
    (entries : List E) × Drains steps s (map Ok entries) × (names ≡ filter is_visible (map name_of entries))

-- Entries came that could be read, and then one that could not, with this fault.
abbrev pub EndsAtFault : {S E F : Type 0} (steps : S → Option (Result E F) → S → Type 0) (s : S) (fault : F) → Type 0
EndsAtFault {S = S} {E = E} steps s fault =
    (entries : List E) × (u : S) × YieldsThen steps s (map Ok entries) (Some (Err fault)) u

-- Why names are not listed: memory was lacking, or an entry can't be read. The first such entry has this fault.
abbrev pub IsWhyUnlisted : {S E : Type 0} (steps : S → Option (Result E Error) → S → Type 0) (s : S) (fault : Error)
    → Type 0
IsWhyUnlisted steps s fault = (error_kind fault ≡ OutOfMemory) ⊎ EndsAtFault steps s fault
