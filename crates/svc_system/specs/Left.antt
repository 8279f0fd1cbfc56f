-- What an earlier svscan left: the process that it recorded, and a start that it did not record.
use Rattle.std.specs.Prelude.{◌≡◌, Bool, true, false, if◌then◌else◌, Option, Some, None}
use Rattle.tai_status.specs.declared.loading.Loaded.{Loaded}
use Rattle.tai_status.specs.declared.loading.Loaded.TheVariants.{New}
use Rattle.tai_status.specs.declared.phase.Phase.{Phase}
use Rattle.tai_status.specs.declared.phase.Phase.TheVariants.{Starting}
use Rattle.svc_system.specs.declared.folder.FileId.{FileId}
use Rattle.svc_record.specs.declared.process.ProcessId.{ProcessId}
use Rattle.svc_record.specs.Place.{is_intent, process_in}
use Rattle.svc_record.specs.declared.place.Place.{Place}

-- the process that a place names, if there is one
abbrev pub placed : Option Place → Option ProcessId
placed None = None
placed (Some place) = process_in place

-- the start that a place intends, if it intends one
abbrev pub intent_in : Place → Option Place
intent_in place = if is_intent place then Some place else None

-- Both exist and are the same file.
abbrev pub IsOneFile : (there here : Option FileId) → Type 0
IsOneFile (Some there) (Some here) = there ≡ here
IsOneFile there here = ⊥

-- whether a start was asked for and not answered
abbrev pub is_starting : Phase → Bool
is_starting Starting = true
is_starting other = false

-- whether a record says so
abbrev pub is_starting_in : Option Loaded → Bool
is_starting_in (Some (New full)) = is_starting full.phase
is_starting_in other = false
