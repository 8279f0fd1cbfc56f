-- Which folder a word of a command names, if the word names a service.
use Rattle.std.specs.Prelude.{Option, ◌≡◌, ◌<◌, ℕ, ◌==◌, Bool, true, false, not, ◌&&◌, if◌then◌else◌, List, ◌∷◌, ◌++◌, length}
use Rattle.std.specs.List.{list_any}

-- the path that each word names, if that is known
abbrev pub KnownPlaces : Type 0
KnownPlaces = List ℕ → Option (List ℕ)

-- A name is a word that is not empty and has no slash.
abbrev pub is_name : List ℕ → Bool
is_name word = not (length word == 0) && not (list_any (λ byte. byte == 47) word)

-- Whether a word is looked up in the folder of services: it is a name, nothing here has it, and there is such a folder.
-- An empty text says that there is none.
abbrev pub is_looked_up : (word : List ℕ) (is_here : Bool) (services : List ℕ) → Bool
is_looked_up word is_here services = is_name word && not is_here && not (length services == 0)

-- the path that a word names: in the folder of services if it is looked up there, and otherwise the word itself
abbrev pub place_of : (word : List ℕ) (is_here : Bool) (services : List ℕ) → List ℕ
place_of word is_here services = if is_looked_up word is_here services then services ++ 47 ∷ word else word

-- a word that names the service of a name in the folder of services: its path if the name alone means something else, as
-- a folder here or an option
abbrev pub word_for : (name : List ℕ) (means_other : Bool) (services : List ℕ) → List ℕ
word_for name means_other services = if means_other then services ++ 47 ∷ name else name

-- The path of a service names that path, whatever is here. A name that nothing here has names the service in the folder of
-- services.
abbrev pub ListedIsFound : Type 0
ListedIsFound =
    (name services : List ℕ) → is_name name ≡ true → 0 < length services
    → ((is_here : Bool) → place_of (word_for name true services) is_here services ≡ services ++ 47 ∷ name)
    × (place_of (word_for name false services) false services ≡ services ++ 47 ∷ name)
