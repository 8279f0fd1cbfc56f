-- The commands by which a shell makes the environment of a folder's files, for a program that takes the shell's place.
-- Also the words by which `env` sets what a shell does not (the page env(1) of the GNU coreutils).
use Rattle.std.specs.Prelude.{◌≡◌, ℕ, ◌||◌, ◌&&◌, not, Bool, true, false, List, [], ◌∷◌, ◌++◌, All, codes, filter}
use Rattle.std.specs.Prelude.{flat_map, fold, map, bytes_eq, Option, Some, None, is_some}
use Rattle.std.specs.List.{list_any}
use Rattle.env_title.specs.Env.{Binding, put, value_of, without}
use Rattle.env_title.specs.Files.{File, env_after, is_hidden}
use Rattle.cmd_envdir.specs.Names.{is_left, is_plain, own_names}
use Rattle.cmd_envdir.specs.Shell.{shell_commands}

-- The variables that a shell changes

-- A variable with its new value, or without one if it is removed.
pub record Change : Type 0 where
  pub name : List ℕ
  pub value : Option (List ℕ)

-- a name and a value as one word
abbrev pub assignment : (name value : List ℕ) → List ℕ
assignment name value = name ++ 61 ∷ value

abbrev pub command_by : (name : List ℕ) → Option (List ℕ) → List (List ℕ)
command_by name (Some value) = codes "export" ∷ assignment name value ∷ []
command_by name None = codes "unset" ∷ name ∷ []

-- the command of a shell that makes this change
abbrev pub command_of : Change → List (List ℕ)
command_of change = command_by change.name change.value

abbrev pub bound_by : (env : List Binding) (name : List ℕ) → Option (List ℕ) → List Binding
bound_by env name (Some value) = put env name value
bound_by env name None = without env name

-- the variables of a shell after such commands
abbrev pub changed : (own : List Binding) → List Change → List Binding
changed own changes = fold (λ env change. bound_by env change.name change.value) own changes

-- The variables that `env` changes

-- the words that remove a variable
abbrev pub removal : (name : List ℕ) → List (List ℕ)
removal name = codes "-u" ∷ name ∷ []

-- the words by which `env` removes the variables with these names, and then sets these variables
abbrev pub env_words : (removed : List (List ℕ)) (set : List Binding) → List (List ℕ)
env_words removed set =
    flat_map removal removed ++ codes "--" ∷ map (λ variable. assignment variable.name variable.value) set

-- the variables that `env` makes of these
abbrev pub made_of : (env : List Binding) (removed : List (List ℕ)) (set : List Binding) → List Binding
made_of env removed set =
    fold (λ before variable. put before variable.name variable.value) (fold without env removed) set

-- the first words of the command that runs a program; `env` is used only if it changes something
abbrev pub start_of : (removed : List (List ℕ)) (set : List Binding) → List (List ℕ)
start_of [] [] = codes "exec" ∷ []
start_of (name ∷ removed) set = codes "exec" ∷ codes "/usr/bin/env" ∷ env_words (name ∷ removed) set
start_of [] (variable ∷ set) = codes "exec" ∷ codes "/usr/bin/env" ∷ env_words [] (variable ∷ set)

-- What the program has

-- whether a file that does not begin with a dot has this name
abbrev pub names_file : List File → List ℕ → Bool
names_file files name =
    list_any (bytes_eq name) (map (λ file. file.name) (filter (λ file. not (is_hidden file)) files))

-- Whether the commands decide the value of this variable. They do if a shell sets it as it is asked to, if a file has
-- its name, or if it was there before and is not left to the shell.
abbrev pub is_settled : List File → (before : List Binding) → (name : List ℕ) → Bool
is_settled files before name =
    is_plain name || (names_file files name || (is_some (value_of before name) && not (is_left name)))

-- A shell passes on what it was given: each name that it sets as it is asked to, except those that it sets by itself.
abbrev pub HandsOn : (before own : List Binding) → Type 0
HandsOn before own =
    (name : List ℕ) → is_plain name ≡ true → list_any (bytes_eq name) own_names ≡ false
    → value_of own name ≡ value_of before name

-- A shell that was given these variables and reads this text runs the program in these words, in the environment that
-- the files make of the variables. The shell changes only what it sets as it is asked to. No value of such a variable
-- is a word of `env`, which others can read.
pub record ReadsAsScriptOf (files : List File) (before : List Binding) (program : List (List ℕ)) (text : List ℕ)
    : Type 0 where
  pub changes : List Change
  pub removed : List (List ℕ)
  pub set : List Binding
  pub reads : shell_commands text ≡ Some (map command_of changes ++ (start_of removed set ++ program) ∷ [])
  pub plain : All (λ (change : Change). is_plain change.name ≡ true) changes
  pub unseen : All (λ (variable : Binding). is_plain variable.name ≡ false) set
  pub makes : (own : List Binding) (name : List ℕ) → HandsOn before own → is_settled files before name ≡ true
      → value_of (made_of (changed own changes) removed set) name ≡ value_of (env_after files before) name
