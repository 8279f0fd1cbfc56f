-- Facts about an environment after files and a title after pushes. Each law is the contract of a function in
-- `src/laws.rt`.
use Rattle.std.specs.Prelude.{◌≡◌, ℕ, ◌-◌, ◌≤◌, List, [], ◌∷◌, ◌++◌, not, ◌&&◌, if◌then◌else◌, length, filter, fold}
use Rattle.std.specs.Prelude.{bytes_eq, replicate, Option, Some, None}
use Rattle.std.specs.List.{last_or}
use Rattle.circular_buffer.specs.Buffer.{keep_last}
use Rattle.env_title.specs.Env.{Binding, HasDistinctNames, value_of}
use Rattle.env_title.specs.Files.{File, is_hidden, is_empty, file_value, env_after}
use Rattle.env_title.specs.Title.{TitleParts, dot, dots, new_title, pushed, title_text, without_nul}

-- the last file of this name, if the name begins with no dot
abbrev pub last_file : List File → List ℕ → Option File
last_file files name = last_or None (filter (λ file. not (is_hidden file) && bytes_eq file.name name) files)

-- what that file makes of the value: without a file it stays, a file with 0 bytes removes it, any other file sets it
abbrev pub value_by : Option File → Option (List ℕ) → Option (List ℕ)
value_by None before = before
value_by (Some file) before = if is_empty file then None else Some (file_value file.bytes)

-- The last file of each name decides its value.
abbrev pub LastFileDecides : Type 0
LastFileDecides = (files : List File) (env : List Binding) (name : List ℕ)
    → value_of (env_after files env) name ≡ value_by (last_file files name) (value_of env name)

-- Applying the files of two folders, one after the other, is the same as applying all of them.
abbrev pub FoldersFollow : Type 0
FoldersFollow = (files more : List File) (env : List Binding)
    → env_after (files ++ more) env ≡ env_after more (env_after files env)

-- If no name occurs twice before, none does afterwards.
abbrev pub NamesStayDistinct : Type 0
NamesStayDistinct =
    (files : List File) (env : List Binding) → HasDistinctNames env → HasDistinctNames (env_after files env)

-- the title after these bytes are pushed one by one
abbrev pub pushed_one_by_one : TitleParts → List ℕ → TitleParts
pushed_one_by_one title bytes = fold (λ before byte. pushed before (byte ∷ [])) title bytes

-- The text of a new title after any bytes were pushed.
abbrev pub ShowsLastBytes : Type 0
ShowsLastBytes = (len : ℕ) (bytes : List ℕ)
    → title_text (pushed_one_by_one (new_title len) bytes)
    ≡ dots ++ keep_last (len - 3) (replicate (len - 3) dot ++ without_nul bytes)

-- It makes no difference how the pushed bytes are cut into blocks.
abbrev pub BlocksJoin : Type 0
BlocksJoin =
    (title : TitleParts) (bytes more : List ℕ) → pushed (pushed title bytes) more ≡ pushed title (bytes ++ more)

-- A new title keeps its length.
abbrev pub LengthStays : Type 0
LengthStays = (len : ℕ) (bytes : List ℕ) → 5 ≤ len → length (title_text (pushed (new_title len) bytes)) ≡ len
