-- What a listing does to the host of the services, and what it finds.
use Rattle.std.specs.Prelude.{◌≡◌, ◌⊎◌, ℕ, Bool, true, false, List, [], ◌∷◌, map, Option, None}
use Rattle.std.specs.Prelude.{Result, Ok, Err, Vec, IfOk, IsErr, IsPermutation, MatchBool}
use Rattle.scan_table.specs.Slots.{Row, SlotState}
use Rattle.svc_host.specs.Parts.{AreHeard}
use Rattle.svc_host.specs.Rounds.{AreCollected, HostState}
use Rattle.svc_host.specs.Calls.{AskedWaits}
use Rattle.cmd_svscan.specs.Asking.{IsAsked}
use Rattle.svscan_rounds.specs.Descriptors.{shortage}
use Rattle.svscan_rounds.specs.Needed.{needed}
use Rattle.svscan_rounds.specs.Quiet.{is_quiet, listed, looked, read}
use Rattle.svscan_rounds.specs.Rows.{AreInOrder}
use Rattle.svscan_rounds.specs.declared.quiet.Quiet.{Quiet}
use Rattle.svscan_rounds.specs.declared.service_set.ListFault.{ListFault}
use Rattle.svscan_rounds.specs.declared.service_set.ListFault.TheVariants as list
use Rattle.svscan_rounds.specs.declared.service_set.Listing.{Listing}
use Rattle.svscan_rounds.specs.declared.service_set.Shortage.{Shortage}

-- Threads were joined, unless that was to be left out.
abbrev pub JoinsUnless : (is_left_out : Bool) → (old new : HostState) → Type 0
JoinsUnless is_left_out old new = MatchBool is_left_out (new ≡ old) (AreCollected old new)

-- Threads were joined, unless nothing had happened, and then traces were kept.
pub record IsUpToDate (is_quiet : Bool) (old new : HostState) : Type 0 where
  pub joined : HostState
  pub joins : JoinsUnless is_quiet old joined
  pub table : new.table ≡ joined.table
  pub parts : AreHeard joined.parts new.parts

abbrev pub has_some : {A : Type 0} → List A → Bool
has_some [] = false
has_some (item ∷ items) = true

-- These are the rows of these names, one for each, in the byte order of the names.
pub record AreRowsOf (names : List (List ℕ)) (rows : List Row) : Type 0 where
  pub order : AreInOrder (map (λ (row : Row). row.name) rows)
  pub each : IsPermutation names (map (λ (row : Row). row.name) rows)

-- the rows in a result
abbrev pub rows_in : {A E : Type 0} → Result (Vec Row A) E → Result (List Row) E
rows_in (Ok rows) = Ok rows.items
rows_in (Err fault) = Err fault

abbrev pub rows_listed : {E : Type 0} → Result Listing E → Result (List Row) E
rows_listed (Ok listing) = Ok listing.rows.items
rows_listed (Err fault) = Err fault

-- A scan needs the rows of some of these names, and it was noted whether there are any. The rows were made, or could
-- not be made.
pub record HasNeed (slots : List SlotState) (names : List (List ℕ)) (old : Quiet) (answer : Result (List Row) ListFault)
    (new : Quiet) : Type 0 where
  pub rows : IfOk answer (AreRowsOf (needed slots names))
  pub noted : new ≡ listed old (has_some (needed slots names))

-- The rows of these names that a scan needs: none in an idle round. If there is no memory, it is not noted which names
-- a scan needs.
abbrev pub FindsRows : List SlotState → (names : List (List ℕ)) → (old : Quiet) → Result (List Row) ListFault
    → (new : Quiet) → Type 0
FindsRows slots names old answer new =
    MatchBool old.is_idle ((answer ≡ Ok []) × (new ≡ old))
    (((answer ≡ Err list.OutOfMemory) × (new ≡ old)) ⊎ HasNeed slots names old answer new)

-- The folder with these names was looked at: it had them before, or not. Then the maker was asked whether a part waits
-- to be admitted to the door.
pub record HasLooked (old : HostState) (old_quiet : Quiet) (answer : Result (List Row) ListFault) (new : HostState)
    (new_quiet : Quiet) : Type 0 where
  pub has_names : Bool
  pub any_waits : Bool
  pub asked : IsAsked (AskedWaits any_waits ∷ []) old new
  pub names : List (List ℕ)
  pub rows : FindsRows old.table.slots names (looked old_quiet has_names any_waits) answer new_quiet

-- A look at the folder: it can't be listed, or it was looked at.
abbrev pub Looks : (old : HostState) → (old_quiet : Quiet) → Result (List Row) ListFault → (new : HostState)
    → (new_quiet : Quiet) → Type 0
Looks old old_quiet answer new new_quiet =
    (IsErr answer × (new ≡ old) × (new_quiet ≡ old_quiet)) ⊎ HasLooked old old_quiet answer new new_quiet

-- A listing: the activity is read, then the host is brought up to date, and then the folder is looked at.
pub record Lists (old : HostState) (old_quiet : Quiet) (answer : Result Listing ListFault) (new : HostState)
    (new_quiet : Quiet) : Type 0 where
  pub activity : ℕ
  pub updated : HostState
  pub host : IsUpToDate (is_quiet (read old_quiet activity)) old updated
  pub looks : Looks updated (read old_quiet activity) (rows_listed answer) new new_quiet

-- A shortage is reported only for the first listing.
abbrev pub IsFirstShortage : (is_first : Bool) → List Row → Option Shortage → Type 0
IsFirstShortage is_first rows answer =
    MatchBool is_first ((allowed : ℕ) × (answer ≡ shortage rows allowed)) (answer ≡ None)
