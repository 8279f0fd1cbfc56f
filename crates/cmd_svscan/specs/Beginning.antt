-- How svscan begins: its host is made, and svscan itself is served.
use Rattle.std.specs.Prelude.{◌≡◌, ◌⊎◌, ⊤, ℕ, Bool, List, [], ◌∷◌, Option, Some, None}
use Rattle.scan_table.specs.Table.{new_table}
use Rattle.svc_maker.specs.declared.holder.OwnFault.{OwnFault}
use Rattle.svc_maker.specs.declared.holder.OwnFault.TheVariants.{Unopened, NotAdmitted}
use Rattle.svc_system.specs.declared.folder.FolderFault.TheVariants as folder
use Rattle.svscan_rounds.specs.Quiet.{fresh}
use Rattle.svscan_rounds.specs.declared.service_set.Startup.{Startup}
use Rattle.svscan_rounds.specs.declared.service_set.Startup.TheVariants.{Served, Unserved, Locked, Unread, Refused}
use Rattle.svc_host.specs.Calls.{ServedOwn}
use Rattle.cmd_svscan.specs.Asking.{IsAsked, own_path}
use Rattle.cmd_svscan.specs.Serving.{Serving}

-- what is said about svscan itself if it is not served
abbrev pub unserved : OwnFault → Startup
unserved (Unopened folder.Locked) = Locked
unserved (Unopened (folder.NotOpened cause)) = Unserved cause
unserved (NotAdmitted cause) = Unserved cause

-- The maker was asked to serve svscan in its folder, or there was no memory to ask, and nothing more was done.
pub record Begins (folder : List ℕ) (old new : Serving) : Type 0 where
  pub asked : (new.host ≡ old.host)
      ⊎ ((is_served : Bool) × IsAsked (ServedOwn (own_path folder) is_served ∷ []) old.host new.host)
  pub quiet : new.quiet ≡ old.quiet

-- svscan exits, because the folder can't be read, or no service could be kept running.
abbrev pub IsRefused : Startup → Type 0
IsRefused Served = ⊥
IsRefused (Unserved cause) = ⊥
IsRefused Locked = ⊥
IsRefused (Unread cause) = ⊤
IsRefused (Refused cause) = ⊤

-- A host was to serve svscan, if there is one.
abbrev pub BeginsIf : (folder : List ℕ) → (old : Option Serving) → Startup → (new : Option Serving) → Type 0
BeginsIf folder None begun None = IsRefused begun
BeginsIf folder (Some old) begun (Some new) = Begins folder old new
BeginsIf folder old begun new = ⊥

-- Nothing is served yet, and nothing was listed.
pub record IsNew (serving : Serving) : Type 0 where
  pub table : serving.host.table ≡ new_table 0
  pub parts : serving.host.parts ≡ []
  pub quiet : serving.quiet ≡ fresh
  pub given : serving.given ≡ []

-- A host was made if there was none, or it could not be made. A host that was there is unchanged.
abbrev pub Opens : (old new : Option Serving) → Type 0
Opens None None = ⊤
Opens None (Some new) = IsNew new
Opens (Some old) new = new ≡ Some old

-- svscan was to be served, after a host was made if there was none.
pub record OpensAndBegins (folder : List ℕ) (old : Option Serving) (begun : Startup) (new : Option Serving) : Type 0 where
  pub opened : Option Serving
  pub opens : Opens old opened
  pub begins : BeginsIf folder opened begun new
