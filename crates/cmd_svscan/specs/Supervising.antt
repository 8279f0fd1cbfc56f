-- What supervise does to the host of its one service.
use Rattle.std.specs.Prelude.{◌≡◌, ◌⊎◌, ⊤, ℕ, Bool, true, false, List, [], ◌∷◌, Option, Some, None, Result, Ok, Err}
use Rattle.scan_table.specs.Slots.{Row, is_service_name}
use Rattle.scan_table.specs.Whole.{is_whole}
use Rattle.scan_table.specs.declared.fault.ScanFault.{ScanFault}
use Rattle.scan_table.specs.declared.part.PartId.{PartId}
use Rattle.tai_status.specs.declared.cause.Cause.TheVariants.{Missing, NoMemory}
use Rattle.svc_host.specs.Calls.{AdmittedAll, AskedRefusals}
use Rattle.svc_host.specs.Parts.{losses_in, no_loss, running_ids}
use Rattle.svc_host.specs.Rounds.{HostState}
use Rattle.svc_host.specs.declared.maker.PartFault.{PartFault}
use Rattle.svc_host.specs.declared.maker.PartFault.TheVariants.{Refused}
use Rattle.svc_host.specs.declared.part.Loss.{Loss}
use Rattle.svscan_rounds.specs.Places.{LeadsTo}
use Rattle.svscan_rounds.specs.declared.service_set.RoundOut.{RoundOut}
use Rattle.svscan_rounds.specs.declared.service_set.Sight.{Sight}
use Rattle.svscan_rounds.specs.declared.service_set.Sight.TheVariants.{Runs, Gone}
use Rattle.svscan_rounds.specs.declared.service_set.Supervision.{Supervision}
use Rattle.svscan_rounds.specs.declared.service_set.Supervision.TheVariants.{Kept, Unmade}
use Rattle.svscan_rounds.specs.declared.service_set.UnmadePart as set
use Rattle.cmd_svscan.specs.Asking.{IsAsked}
use Rattle.cmd_svscan.specs.Beginning.{Opens}
use Rattle.cmd_svscan.specs.Looking.{IsUpToDate}
use Rattle.cmd_svscan.specs.Scanning.{Scans}
use Rattle.cmd_svscan.specs.Serving.{Serving}

-- the row of a service without a logger
abbrev pub lone_row : (name : List ℕ) (down : Bool) → Row
lone_row name down = record { name = name; is_dir = true; has_log = false; down = down; log_down = false }

abbrev pub no_memory : PartFault
no_memory = Refused NoMemory

-- why the first of these parts was not made, if there is one
abbrev pub first_fault : List set.UnmadePart → Option PartFault
first_fault [] = None
first_fault (one ∷ others) = Some one.fault

-- What came of the begin: whether the service has a part that runs, and the fault, if there was one. Memory was lacking
-- if there is neither.
abbrev pub supervision_of : (runs : Bool) → Option PartFault → Supervision
supervision_of true fault = Kept fault
supervision_of false None = Unmade no_memory
supervision_of false (Some fault) = Unmade fault

abbrev pub supervision_after : (runs : Bool) → Result RoundOut ScanFault → Supervision
supervision_after runs (Ok out) = supervision_of runs (first_fault out.unmade.items)
supervision_after runs (Err fault) = Unmade no_memory

-- One scan was made of one row: that of the service in DIR, without a logger.
pub record ScansOne (dir : List ℕ) (old : HostState) (supervision : Supervision) (new : HostState) : Type 0 where
  pub folder : List ℕ
  pub name : List ℕ
  pub down : Bool
  pub answer : Result RoundOut ScanFault
  pub leads : LeadsTo dir folder name
  pub named : is_service_name name ≡ true
  pub scans : Scans folder old (lone_row name down ∷ []) answer new
  pub supervision_is : supervision ≡ supervision_after (is_whole new.table.slots name) answer

-- The service in DIR was begun. Or nothing was done: for lack of memory, or since DIR is empty and leads nowhere.
abbrev pub BeginsOne : (dir : List ℕ) (old : HostState) (supervision : Supervision) (new : HostState) → Type 0
BeginsOne dir old supervision new =
    ((supervision ≡ Unmade no_memory) × (new ≡ old))
    ⊎ ((dir ≡ []) × (supervision ≡ Unmade (Refused Missing)) × (new ≡ old))
    ⊎ ScansOne dir old supervision new

abbrev pub IsUnmade : Supervision → Type 0
IsUnmade (Kept fault) = ⊥
IsUnmade (Unmade fault) = ⊤

-- If there is no host, nothing was begun.
abbrev pub SupervisesIf : (dir : List ℕ) → (old : Option Serving) → Supervision → (new : Option Serving) → Type 0
SupervisesIf dir None supervision None = IsUnmade supervision
SupervisesIf dir (Some old) supervision (Some new) =
    BeginsOne dir old.host supervision new.host × (new.quiet ≡ old.quiet)
SupervisesIf dir old supervision new = ⊥

-- The service was to begin, after a host was made if there was none.
pub record OpensAndSupervises (dir : List ℕ) (old : Option Serving) (supervision : Supervision) (new : Option Serving)
    : Type 0 where
  pub opened : Option Serving
  pub opens : Opens old opened
  pub supervises : SupervisesIf dir opened supervision new

-- what the first of these parts lost, if there is one
abbrev pub first_loss : List (PartId × Loss) → Loss
first_loss [] = no_loss
first_loss (one ∷ others) = one.1

-- After a look at the host: no part runs, and this was lost, or it is not known for lack of memory. Or a part runs, and
-- the maker was asked to admit it to the door, if it waits for that.
abbrev pub Sees : (found : HostState) → Sight → (new : HostState) → Type 0
Sees found (Gone loss) new =
    (new ≡ found) × (running_ids found.parts ≡ [])
    × ((loss ≡ first_loss (losses_in found.parts)) ⊎ (loss ≡ no_loss))
Sees found (Runs fault) new = IsAsked (AdmittedAll ∷ AskedRefusals ∷ []) found new

-- The service was watched over: threads were joined and traces were kept, and then the host was looked at.
pub record Watches (old : HostState) (sight : Sight) (new : HostState) : Type 0 where
  pub found : HostState
  pub up_to_date : IsUpToDate false old found
  pub sees : Sees found sight new
