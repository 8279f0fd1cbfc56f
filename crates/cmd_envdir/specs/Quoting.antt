-- How commands and words are written. Only private functions use these definitions.
use Rattle.std.specs.Prelude.{ℕ, ◌==◌, ◌&&◌, ◌||◌, not, if◌then◌else◌, Bool, List, [], ◌∷◌, ◌++◌, codes, flat_map}
use Rattle.std.specs.Prelude.{length, Option, Some, None, is_some}
use Rattle.env_title.specs.Env.{Binding, value_of}
use Rattle.env_title.specs.Files.{File, is_hidden}
use Rattle.cmd_envdir.specs.Names.{is_left, is_plain, own_names}
use Rattle.cmd_envdir.specs.Script.{assignment, names_file}

-- a byte within single quotes; a byte that would end the quotes comes after a backslash, outside of them
abbrev pub escaped_byte : ℕ → List ℕ
escaped_byte byte = if byte == 39 then 39 ∷ 92 ∷ 39 ∷ 39 ∷ [] else byte ∷ []

abbrev pub escaped : List ℕ → List ℕ
escaped bytes = flat_map escaped_byte bytes

-- a text in single quotes, and a byte after it
abbrev pub quoted : List ℕ → ℕ → List ℕ
quoted text last = 39 ∷ escaped text ++ 39 ∷ last ∷ []

abbrev pub word_text : List ℕ → List ℕ
word_text word = quoted word 32

-- the line of a change
abbrev pub line_by : (name : List ℕ) → Option (List ℕ) → List ℕ
line_by name (Some value) = codes "export " ++ (name ++ 61 ∷ quoted value 10)
line_by name None = codes "unset " ++ (name ++ 10 ∷ [])

-- the line that gives a variable the value that it has in an environment
abbrev pub line_of : (target : List Binding) (name : List ℕ) → List ℕ
line_of target name = line_by name (value_of target name)

abbrev pub file_line : (target : List Binding) → File → List ℕ
file_line target file = if is_hidden file || not (is_plain file.name) then [] else line_of target file.name

abbrev pub lines_text : (target : List Binding) → List File → List ℕ
lines_text target files = flat_map (line_of target) own_names ++ flat_map (file_line target) files

-- whether `env` must remove the variable of a file
abbrev pub is_removed : (target : List Binding) → File → Bool
is_removed target file = not (is_hidden file) && (not (is_plain file.name) && not (is_some (value_of target file.name)))

abbrev pub removed_text : (target : List Binding) → File → List ℕ
removed_text target file =
    if is_removed target file then word_text (codes "-u") ++ word_text file.name else []

-- whether `env` must set a variable
abbrev pub is_set : List File → (name : List ℕ) → Bool
is_set files name = not (is_plain name) && (names_file files name || not (is_left name))

abbrev pub set_text : List File → Binding → List ℕ
set_text files variable =
    if is_set files variable.name then word_text (assignment variable.name variable.value) else []

abbrev pub are_none : (removals settings : List ℕ) → Bool
are_none removals settings = length removals == 0 && length settings == 0

abbrev pub env_text : (removals settings : List ℕ) → List ℕ
env_text removals settings = codes "exec /usr/bin/env " ++ (removals ++ (word_text (codes "--") ++ settings))

abbrev pub start_text : (removals settings : List ℕ) → List ℕ
start_text removals settings = if are_none removals settings then codes "exec " else env_text removals settings

abbrev pub script_text : (target : List Binding) → List File → (program : List (List ℕ)) → List ℕ
script_text target files program =
    lines_text target files
    ++ (start_text (flat_map (removed_text target) files) (flat_map (set_text files) target)
    ++ flat_map word_text program)
