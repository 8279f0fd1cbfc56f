-- What a command says of a variable after each of its files and variables. Only private functions use these
-- definitions.
use Rattle.std.specs.Prelude.{ℕ, List, [], ◌∷◌, Option, Some, None, bytes_eq, if◌then◌else◌}
use Rattle.env_title.specs.Env.{Binding}
use Rattle.env_title.specs.Files.{File}

-- what a command says of a variable after those with files' names were removed, if it said `before`
abbrev pub said_after_files : List File → List ℕ → (before : Option (Option (List ℕ))) → Option (Option (List ℕ))
said_after_files [] name before = before
said_after_files (file ∷ files) name before =
    said_after_files files name (if bytes_eq name file.name then Some None else before)

-- what the command says of a variable after these were set
abbrev pub said_after_set : List Binding → List ℕ → (before : Option (Option (List ℕ))) → Option (Option (List ℕ))
said_after_set [] name before = before
said_after_set (variable ∷ variables) name before =
    said_after_set variables name (if bytes_eq variable.name name then Some (Some variable.value) else before)
