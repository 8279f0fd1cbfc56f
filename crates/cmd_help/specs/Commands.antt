-- The words that ask for a page.
use Rattle.std.specs.Prelude.{ℕ, List, [], ◌∷◌, bytes_eq, codes, if◌then◌else◌, Option, Some, None}

-- the command whose page words ask for: they are its name and `--help`
abbrev pub page_asked : (words : List (List ℕ)) → Option (List ℕ)
page_asked (name ∷ word ∷ []) = if bytes_eq word (codes "--help") then Some name else None
page_asked other = None
