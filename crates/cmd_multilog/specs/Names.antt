-- Names in the folder of a log, which are lists of bytes.
use Rattle.std.specs.Prelude.{ℕ, nat_le, ◌==◌, Bool, false, ◌&&◌, if◌then◌else◌, List, [], ◌∷◌, fold, length, Option}
use Rattle.std.specs.Prelude.{None, IsSorted}
use Rattle.std.specs.Cmp.Lexicographic.{slice_cmp}
use Rattle.std.specs.Ordering.{is_lt, nat_cmp}
use Rattle.tai_status.specs.Label.{Tai64n}
use Rattle.mlog_files.specs.Named.{label_in, later_of}

abbrev pub begins_with_at : List ℕ → Bool
begins_with_at [] = false
begins_with_at (first ∷ rest) = first == 64

-- Old files are those whose names begin with an `@` and have 25 bytes or more, whoever wrote them.
abbrev pub is_old_name : List ℕ → Bool
is_old_name name = begins_with_at name && nat_le 25 (length name)

-- the names with one more, inserted before the first one that is not smaller
abbrev pub with_name : List ℕ → List (List ℕ) → List (List ℕ)
with_name name [] = name ∷ []
with_name name (first ∷ names) =
    if is_lt (slice_cmp nat_cmp first name) then first ∷ with_name name names else name ∷ first ∷ names

-- Names are in byte order: none is smaller than the one before it.
abbrev pub AreInOrder : List (List ℕ) → Type 0
AreInOrder names = IsSorted (slice_cmp nat_cmp) names

-- the names of old files among these, in byte order
abbrev pub old_names : List (List ℕ) → List (List ℕ)
old_names names = fold (λ olds name. if is_old_name name then with_name name olds else olds) [] names

-- the greatest label in these names
abbrev pub greatest_in : List (List ℕ) → Option Tai64n
greatest_in names = fold (λ best name. later_of best (label_in name)) None names
