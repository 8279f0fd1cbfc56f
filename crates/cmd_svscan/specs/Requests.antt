-- What is done for each request, and the response.
use Rattle.std.specs.Prelude.{◌≡◌, ℕ, List, [], Option, Some, None, Result, Err, option_map, string_bytes}
use Rattle.scan_table.specs.Slots.{Row}
use Rattle.scan_table.specs.declared.fault.ScanFault.{ScanFault}
use Rattle.scan_table.specs.declared.fault.ScanFault.TheVariants as scan
use Rattle.svscan_rounds.specs.declared.service_set.Startup.{Startup}
use Rattle.svscan_rounds.specs.declared.service_set.ListFault.{ListFault}
use Rattle.svscan_rounds.specs.declared.service_set.ListFault.TheVariants as list
use Rattle.svscan_rounds.specs.declared.service_set.Listing.{Listing}
use Rattle.svscan_rounds.specs.declared.service_set.Remaining.{Remaining}
use Rattle.svscan_rounds.specs.declared.service_set.RoundOut.{RoundOut}
use Rattle.svscan_rounds.specs.declared.service_set.Sight.{Sight}
use Rattle.svscan_rounds.specs.declared.service_set.Sight.TheVariants.{Gone}
use Rattle.svscan_rounds.specs.declared.service_set.Supervision.{Supervision}
use Rattle.svscan_rounds.specs.declared.service_set.Unlogged.{Unlogged}
use Rattle.svc_host.specs.Parts.{no_loss}
use Rattle.cmd_svscan.specs.Beginning.{Opens, OpensAndBegins}
use Rattle.cmd_svscan.specs.Closing.{Ends, Leaves}
use Rattle.cmd_svscan.specs.Looking.{Lists}
use Rattle.cmd_svscan.specs.Resting.{Hears}
use Rattle.cmd_svscan.specs.Scanning.{Rounds}
use Rattle.cmd_svscan.specs.Serving.{Serving}
use Rattle.cmd_svscan.specs.Supervising.{OpensAndSupervises, Watches}
use Rattle.cmd_svscan.specs.declared.folder_services.Request.{Request}
use Rattle.cmd_svscan.specs.declared.folder_services.Request.TheVariants as request
use Rattle.cmd_svscan.specs.declared.folder_services.Response.{Response}
use Rattle.cmd_svscan.specs.declared.folder_services.Response.TheVariants as response

-- What each request does if there is a host. If there is none, memory is lacking, nothing is heard, and there is
-- nothing left to end.

abbrev pub ListsIf : (old : Option Serving) → Result Listing ListFault → (new : Option Serving) → Type 0
ListsIf None answer None = answer ≡ Err list.OutOfMemory
ListsIf (Some old) answer (Some new) = Lists old.host old.quiet answer new.host new.quiet
ListsIf old answer new = ⊥

-- A folder was listed, after a host was made if there was none.
pub record OpensAndLists (old : Option Serving) (answer : Result Listing ListFault) (new : Option Serving)
    : Type 0 where
  pub opened : Option Serving
  pub opens : Opens old opened
  pub lists : ListsIf opened answer new

abbrev pub RoundsIf : (folder : List ℕ) → (old : Option Serving) → List Row → Result RoundOut ScanFault
    → (new : Option Serving) → Type 0
RoundsIf folder None rows answer None = answer ≡ Err scan.OutOfMemory
RoundsIf folder (Some old) rows answer (Some new) = Rounds folder old.host old.quiet rows answer new.host new.quiet
RoundsIf folder old rows answer new = ⊥

abbrev pub HearsIf : (old : Option Serving) → Option ℕ → (new : Option Serving) → Type 0
HearsIf None byte None = byte ≡ None
HearsIf (Some old) byte (Some new) = Hears old byte new
HearsIf old byte new = ⊥

abbrev pub EndsIf : (old : Option Serving) → Option (List Remaining) → (new : Option Serving) → Type 0
EndsIf None left None = left ≡ None
EndsIf (Some old) left (Some new) = Ends old.host left new.host × (new.quiet ≡ old.quiet)
EndsIf old left new = ⊥

abbrev pub LeavesIf : (old : Option Serving) → List Unlogged → (new : Option Serving) → Type 0
LeavesIf None unlogged None = unlogged ≡ []
LeavesIf (Some old) unlogged (Some new) = Leaves old.host unlogged new.host × (new.quiet ≡ old.quiet)
LeavesIf old unlogged new = ⊥

-- If there is no host, the one service is gone.
abbrev pub WatchesIf : (old : Option Serving) → Sight → (new : Option Serving) → Type 0
WatchesIf None sight None = sight ≡ Gone no_loss
WatchesIf (Some old) sight (Some new) = Watches old.host sight new.host × (new.quiet ≡ old.quiet)
WatchesIf old sight new = ⊥

-- This was done, and the request has its own kind of response.
abbrev pub Serves : Request → Response → (old new : Option Serving) → Type 0
Serves (request.Begin folder) (response.Begun begun) old new = OpensAndBegins (string_bytes folder) old begun new
Serves (request.List folder) (response.Rows answer) old new = OpensAndLists old answer new
Serves (request.Round folder rows) (response.Round answer) old new =
    RoundsIf (string_bytes folder) old rows.items answer new
Serves request.Hear (response.Heard byte) old new = HearsIf old byte new
Serves request.End (response.Ended left) old new = EndsIf old (option_map (λ some. some.items) left) new
Serves request.Leave (response.Left unlogged) old new = LeavesIf old unlogged.items new
Serves (request.Supervise folder) (response.Supervised supervision) old new =
    OpensAndSupervises (string_bytes folder) old supervision new
Serves request.Watch (response.Watched sight) old new = WatchesIf old sight new
Serves request response old new = ⊥

-- Something is served in such a way that the request has this response.
pub record IsResponseTo (request : Request) (response : Response) : Type 0 where
  pub old : Option Serving
  pub new : Option Serving
  pub serves : Serves request response old new

-- A function with these results responses to each request in such a way.
abbrev pub RespondsAsServed : {F : Type 0} → (post : F → Request → Response → Type 0) → Type 0
RespondsAsServed {F = F} post =
    (state : F) (request : Request) (response : Response) → post state request response → IsResponseTo request response
