-- The rows of a folder, from what it says of its names.
use Rattle.std.specs.Prelude.{◌≡◌, ⊤, ℕ, ◌++◌, Bool, true, false, ◌&&◌, codes, List, Option, Some, None, IsSorted}
use Rattle.std.specs.List.{All}
use Rattle.scan_table.specs.Slots.{Row, name_order}
use Rattle.svscan_rounds.specs.declared.rows.Entry.{Entry}

-- No name is smaller than the one before, in the byte order of names.
abbrev pub AreInOrder : List (List ℕ) → Type 0
AreInOrder names = IsSorted name_order names

-- what is at a path
pub data Standing : Type 0 where
  Nothing : Standing
  Directory : Standing
  Other : Standing

abbrev pub is_directory : Standing → Bool
is_directory Nothing = false
is_directory Directory = true
is_directory Other = false

abbrev pub is_there : Standing → Bool
is_there Nothing = false
is_there Directory = true
is_there Other = true

-- The entry of a name says whether it is a directory, and whether it has a directory `log`. It says for each of the two
-- whether it has anything called `down`.
abbrev pub entry_at : (at : List ℕ → Standing) → (name : List ℕ) → Entry
entry_at at name = record {
  is_dir = is_directory (at name);
  has_log = is_directory (at name) && is_directory (at (name ++ codes "/log"));
  down = is_directory (at name) && is_there (at (name ++ codes "/down"));
  log_down = (is_directory (at name) && is_directory (at (name ++ codes "/log")))
      && is_there (at (name ++ codes "/log/down"));
}

-- the entries of names, if it is known what is at paths
abbrev pub entries_of : Option (List ℕ → Standing) → Option (List ℕ → Entry)
entries_of None = None
entries_of (Some at) = Some (entry_at at)

-- the row of a name with this entry
abbrev pub row_of : (name : List ℕ) → Entry → Row
row_of name entry = record {
  name = name;
  is_dir = entry.is_dir;
  has_log = entry.has_log;
  down = entry.down;
  log_down = entry.log_down;
}

-- Each row is as the folder says of its name, if that is known.
abbrev pub AreAsSaid : Option (List ℕ → Entry) → List Row → Type 0
AreAsSaid None rows = ⊤
AreAsSaid (Some says) rows = All (λ row. row ≡ row_of row.name (says row.name)) rows
