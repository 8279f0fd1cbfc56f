-- When a folder is known to have the same names as before.
use Rattle.std.specs.Prelude.{◌≡◌, Bool, if◌then◌else◌, Option, Some, None}
use Rattle.tai_status.specs.Label.{Tai64n, is_earlier, plus_second}
use Rattle.svscan_rounds.specs.declared.folder_state.FolderState.{FolderState}

-- whether a change at this moment would give the folder another time than the last change did: some systems only record
-- whole seconds, or every second one
abbrev pub is_settled : FolderState → (now : Tai64n) → Bool
is_settled state now = is_earlier (plus_second (plus_second state.changed)) now

-- what is kept of a folder's state when it is listed: nothing, if the folder may change unnoticed
abbrev pub kept_state : Option FolderState → (now : Tai64n) → Option FolderState
kept_state None now = None
kept_state (Some state) now = if is_settled state now then Some state else None

-- A state was kept, and it is the same now.
abbrev pub IsUnchanged : (kept now : Option FolderState) → Type 0
IsUnchanged None now = ⊥
IsUnchanged (Some state) now = now ≡ Some state
