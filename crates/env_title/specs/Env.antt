-- Environment variables. Names and values are lists of bytes.
use Rattle.std.specs.Prelude.{List, [], ◌∷◌, ◌++◌, ℕ, Bool, not, filter, find, bytes_eq, Option, option_map}
use Rattle.std.specs.List.{IsDistinct, list_any}

pub record Binding : Type 0 where
  pub name : List ℕ
  pub value : List ℕ

abbrev pub binding : List ℕ → List ℕ → Binding
binding name value = record { name = name; value = value }

-- whether a variable has this name
abbrev pub is_named : List ℕ → Binding → Bool
is_named name variable = bytes_eq variable.name name

-- No name occurs twice.
abbrev pub HasDistinctNames : List Binding → Type 0
HasDistinctNames env = IsDistinct (λ one other. bytes_eq one.name other.name) env

-- the value of the variable with this name
abbrev pub value_of : List Binding → List ℕ → Option (List ℕ)
value_of env name = option_map (λ variable. variable.value) (find (is_named name) env)

-- the variables without the one with this name
abbrev pub without : List Binding → List ℕ → List Binding
without env name = filter (λ variable. not (is_named name variable)) env

-- the variables with this one last, which replaces any other with its name
abbrev pub put : List Binding → List ℕ → List ℕ → List Binding
put env name value = without env name ++ binding name value ∷ []
