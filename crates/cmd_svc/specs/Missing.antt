-- What is reported about services whose folders don't exist.
use Rattle.std.specs.Prelude.{◌≡◌, ℕ, List, [], ◌∷◌, ◌++◌, Option, Some, None}
use Rattle.tai_status.specs.Counted.{Device, Reports}
use Rattle.tai_status.specs.Extended.{Extended}
use Rattle.tai_status.specs.Causes.{cause_note}
use Rattle.tai_status.specs.declared.cause.Cause.{Cause}
use Rattle.svc_client.specs.Calls.{Call, SoughtFolder}
use Rattle.svc_client.specs.Turns.{InTurn}

-- What is asked of services, and the device for reports of faults.
pub record Telling : Type 0 where
  pub calls : Option (List Call)
  pub faults : Device

abbrev pub telling : (calls : Option (List Call)) (faults : Device) → Telling
telling calls faults = record { calls = calls; faults = faults }

-- If there is no folder, the reason is reported after the name of the command. If there is one, nothing is reported.
abbrev pub ReportsMissing : (command folder : List ℕ) → Option Cause → (old new : Device) → Type 0
ReportsMissing command folder None old new = new ≡ old
ReportsMissing command folder (Some cause) old new = Reports old new (command ++ (folder ++ cause_note cause))

-- One call asked whether there is a folder, and it is reported if there is none.
pub record TellsMissing (command folder : List ℕ) (old new : Telling) : Type 0 where
  pub fault : Option Cause
  pub sought : Extended old.calls new.calls (SoughtFolder folder fault ∷ [])
  pub reported : ReportsMissing command folder fault old.faults new.faults

-- The same for each of these folders, in order.
abbrev pub TellsEach : (command : List ℕ) (folders : List (List ℕ)) (old new : Telling) → Type 0
TellsEach command folders old new = InTurn (TellsMissing command) folders old new
