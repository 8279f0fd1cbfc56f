-- What is asked of the maker of svscan's host, in addition to its parts.
use Rattle.std.specs.Prelude.{◌≡◌, ℕ, Bool, true, false, List, [], ◌∷◌, ◌++◌, MatchBool, codes}
use Rattle.scan_table.specs.Slots.{Row}
use Rattle.svc_house.specs.Calls.{ExtendedWhileKept}
use Rattle.svc_host.specs.Calls.{Call, Allowed, Prepared, SetFolder}
use Rattle.svc_host.specs.Rounds.{HostState}

-- This was asked of the maker, in order, and nothing else was done: the table and the parts are as they were.
pub record IsAsked (asked : List Call) (old new : HostState) : Type 0 where
  pub table : new.table ≡ old.table
  pub parts : new.parts ≡ old.parts
  pub calls : ExtendedWhileKept old.calls new.calls asked

-- What is asked of the maker before a scan: to use the folder, to allow this many descriptors, and to make what the
-- outputs of the rows lack. If there is no memory for the folder, nothing more is asked.
abbrev pub Prepares : (folder : List ℕ) → List Row → (is_set : Bool) → (old new : HostState) → Type 0
Prepares folder rows true old new =
    (allowed : ℕ) × IsAsked (SetFolder folder true ∷ Allowed allowed ∷ Prepared rows ∷ []) old new
Prepares folder rows false old new = IsAsked (SetFolder folder false ∷ []) old new

-- the folder in which svscan itself is served
abbrev pub own_path : (folder : List ℕ) → List ℕ
own_path folder = folder ++ codes "/.svscan"
