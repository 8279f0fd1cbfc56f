-- How the files of a folder change the environment, by the envdir page of daemontools
-- (cr.yp.to/daemontools/envdir.html). Names and contents are lists of bytes.
use Rattle.std.specs.Prelude.{List, [], ◌∷◌, ◌++◌, ℕ, ◌-◌, Bool, not, ◌==◌, ◌||◌, if◌then◌else◌, filter, map, take}
use Rattle.std.specs.Prelude.{length, slice_index, bytes_eq}
use Rattle.std.specs.List.{list_any, before_first, suffix_len}
use Rattle.env_title.specs.Env.{Binding, binding, put, without}

pub record File : Type 0 where
  pub name : List ℕ
  pub bytes : List ℕ

abbrev pub newline : ℕ
newline = 10

abbrev pub is_blank : ℕ → Bool
is_blank byte = byte == 32 || byte == 9

-- the bytes before the first newline, or all bytes if there is none
abbrev pub first_line : List ℕ → List ℕ
first_line bytes = before_first (λ byte. byte == newline) bytes

-- the bytes without the spaces and tabs at their end
abbrev pub without_end_blanks : List ℕ → List ℕ
without_end_blanks bytes = take (length bytes - suffix_len is_blank bytes) bytes

abbrev pub nul_as_newline : ℕ → ℕ
nul_as_newline byte = if byte == 0 then newline else byte

-- the value that a file with these bytes gives: its first line, without the spaces and tabs at its end, and with a
-- newline for each NUL
abbrev pub file_value : List ℕ → List ℕ
file_value bytes = map nul_as_newline (without_end_blanks (first_line bytes))

-- whether the name begins with a dot
abbrev pub is_hidden : File → Bool
is_hidden file = slice_index file.name 0 == 46

abbrev pub is_empty : File → Bool
is_empty file = length file.bytes == 0

-- whether one of the files has this name
abbrev pub has_file : List File → List ℕ → Bool
has_file files name = list_any (λ file. bytes_eq name file.name) files

-- the last file of each name, in the order of the files
abbrev pub last_of_each_name : List File → List File
last_of_each_name [] = []
last_of_each_name (file ∷ later) =
    let last = last_of_each_name later in if has_file later file.name then last else file ∷ last

-- the files that count: the last file of each name that does not begin with a dot
abbrev pub counting : List File → List File
counting files = last_of_each_name (filter (λ file. not (is_hidden file)) files)

-- the variables without a counting file of their name
abbrev pub kept : List File → List Binding → List Binding
kept files env = filter (λ variable. not (has_file (counting files) variable.name)) env

-- what the files that count set, in their order; a file with 0 bytes sets nothing
abbrev pub set_by : List File → List Binding
set_by files =
    map (λ file. binding file.name (file_value file.bytes)) (filter (λ file. not (is_empty file)) (counting files))

-- the environment after the files of a folder
abbrev pub env_after : List File → List Binding → List Binding
env_after files env = kept files env ++ set_by files

-- the environment after one file with a name that does not begin with a dot
abbrev pub after_file : List Binding → File → List Binding
after_file env file = if is_empty file then without env file.name else put env file.name (file_value file.bytes)
