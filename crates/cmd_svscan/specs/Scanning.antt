-- What a round does to the host of the services, and what it reports.
use Rattle.std.specs.Prelude.{◌≡◌, ◌⊎◌, ℕ, Bool, true, false, List, [], ◌∷◌, ◌++◌, map, Result, Ok, Err, MatchBool}
use Rattle.std.specs.Result.{IsOkAnd}
use mathlib.Core.List.{IsPrefix}
use Rattle.tai_status.specs.Label.{Tai64n}
use Rattle.scan_table.specs.Slots.{Row, SlotState}
use Rattle.scan_table.specs.declared.fault.ScanFault.{ScanFault}
use Rattle.scan_table.specs.declared.fault.ScanFault.TheVariants.{OutOfMemory}
use Rattle.svc_host.specs.Calls.{AdmittedAll, AskedRefusals}
use Rattle.svc_host.specs.Parts.{losses_in, without_loss}
use Rattle.svc_host.specs.Rounds.{HostState, IsCause, IsScanned}
use Rattle.svc_host.specs.declared.host.HostOut.{HostOut}
use Rattle.svc_host.specs.declared.host.Unmade as host
use Rattle.svscan_rounds.specs.Quiet.{scanned}
use Rattle.svscan_rounds.specs.declared.quiet.Quiet.{Quiet}
use Rattle.svscan_rounds.specs.declared.service_set.RoundOut.{RoundOut}
use Rattle.svscan_rounds.specs.declared.service_set.UnmadePart.{UnmadePart}
use Rattle.cmd_svscan.specs.Asking.{IsAsked, Prepares}
use Rattle.cmd_svscan.specs.Losses.{unmade_in, untaken_in, untraced_in}

-- In the round nothing was lost or refused, and there was nothing that could not be made.
pub record DidNothing (out : RoundOut) : Type 0 where
  pub untaken : out.untaken.items ≡ []
  pub untraced : out.untraced ≡ []
  pub unmade : out.unmade.items ≡ []
  pub refused : out.refused ≡ []

-- The parts that could not be made are named, and after them those that could not be admitted: as many as there was
-- memory for.
pub record NamesUnmade (slots : List SlotState) (failed : List host.Unmade) (named : List UnmadePart) : Type 0 where
  pub refusals : List host.Unmade
  pub first : IsPrefix named (unmade_in slots (failed ++ refusals))

-- The maker was asked for what a scan needs, and then a scan was made of these rows. After it, the maker was asked to
-- admit the parts that wait, and which it could not admit. What parts had lost before the scan is reported completely,
-- and then forgotten. The names that the scan refuses, and the parts that could not be made, are reported too.
pub record HasScanned (folder : List ℕ) (old : HostState) (rows : List Row) (out : RoundOut) (new : HostState)
    : Type 0 where
  pub before : HostState
  pub prepared : Prepares folder rows true old before
  pub label : Tai64n
  pub found : HostOut
  pub after : HostState
  pub scanned : IsScanned before rows label found after
  pub admitted : IsAsked (AdmittedAll ∷ AskedRefusals ∷ [])
      (record after { parts = map without_loss after.parts }) new
  pub untaken : out.untaken.items ≡ untaken_in old.table.slots (losses_in old.parts)
  pub untraced : out.untraced ≡ untraced_in old.table.slots (losses_in old.parts)
  pub refused : out.refused ≡ found.scan.refused
  pub unmade : NamesUnmade new.table.slots found.failed.items out.unmade.items

-- A scan was refused: nothing was started, restarted or dropped, and what parts lost is still known. Memory was
-- lacking, or the table says why.
pub record HasNotScanned (folder : List ℕ) (old : HostState) (rows : List Row) (fault : ScanFault) (new : HostState)
    : Type 0 where
  pub prepared : (new ≡ old) ⊎ ((is_set : Bool) × Prepares folder rows is_set old new)
  pub cause : (fault ≡ OutOfMemory) ⊎ IsCause old.table rows fault

abbrev pub Scans : (folder : List ℕ) → (old : HostState) → List Row → Result RoundOut ScanFault → (new : HostState)
    → Type 0
Scans folder old rows (Ok out) new = HasScanned folder old rows out new
Scans folder old rows (Err fault) new = HasNotScanned folder old rows fault new

-- An idle round does nothing. Any other one is a scan.
abbrev pub ScansUnless : (is_idle : Bool) → (folder : List ℕ) → (old : HostState) → List Row
    → Result RoundOut ScanFault → (new : HostState) → Type 0
ScansUnless is_idle folder old rows answer new =
    MatchBool is_idle (IsOkAnd answer DidNothing × (new ≡ old)) (Scans folder old rows answer new)

abbrev pub is_refused : Result RoundOut ScanFault → Bool
is_refused (Ok out) = false
is_refused (Err fault) = true

pub record Rounds (folder : List ℕ) (old : HostState) (old_quiet : Quiet) (rows : List Row)
    (answer : Result RoundOut ScanFault) (new : HostState) (new_quiet : Quiet) : Type 0 where
  pub scans : ScansUnless old_quiet.is_idle folder old rows answer new
  pub quiet : new_quiet ≡ scanned old_quiet (is_refused answer)
