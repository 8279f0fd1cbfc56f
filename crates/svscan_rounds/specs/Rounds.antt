-- What svscan does, as a list of rounds (cr.yp.to/daemontools/svscan.html).
use Rattle.std.specs.Prelude.{◌≡◌, ⊤, ℕ, ◌+◌, ◌≤◌, ◌⊎◌, Bool, true, false, List, [], ◌∷◌, ◌++◌, map, length, flat_map}
use Rattle.std.specs.Prelude.{codes, decimal, ◌==◌, if◌then◌else◌, All, Option, None, Some, IfSome, Ok, Err}
use Rattle.tai_status.specs.Counted.{Device, Reports}
use Rattle.scan_table.specs.Slots.{Row}
use Rattle.scan_table.specs.declared.fault.ScanFault.{ScanFault}
use Rattle.scan_table.specs.declared.fault.ScanFault.TheVariants.{Unsorted, Twice, Exhausted, OutOfMemory}
use Rattle.cmd_base.specs.Usage.{usage_text}
use Rattle.cmd_base.specs.declared.command.Command.TheVariants.{Svscan}
use Rattle.tai_status.specs.Causes.{cause_note}
use Rattle.tai_status.specs.declared.cause.Cause.{Cause}
use Rattle.svc_host.specs.declared.maker.PartFault.{PartFault}
use Rattle.svc_host.specs.declared.maker.PartFault.TheVariants as part
use Rattle.svscan_rounds.specs.declared.orders.Order.{Order}
use Rattle.svscan_rounds.specs.declared.orders.Order.TheVariants as order
use Rattle.svscan_rounds.specs.declared.service_set.Startup.{Startup}
use Rattle.svscan_rounds.specs.declared.service_set.Startup.TheVariants.{Served, Unserved, Locked, Unread, Refused}
use Rattle.svscan_rounds.specs.declared.service_set.ListFault.{ListFault}
use Rattle.svscan_rounds.specs.declared.service_set.ListFault.TheVariants as list
use Rattle.svscan_rounds.specs.declared.service_set.Listing.{Listing}
use Rattle.svscan_rounds.specs.declared.service_set.Remaining.{Remaining}
use Rattle.svscan_rounds.specs.declared.service_set.RoundOut.{RoundOut}
use Rattle.svscan_rounds.specs.declared.service_set.Shortage.{Shortage}
use Rattle.svscan_rounds.specs.declared.service_set.Unfinished.{Unfinished}
use Rattle.svscan_rounds.specs.declared.service_set.Unfinished.TheVariants.{Bytes, Records}
use Rattle.svscan_rounds.specs.declared.service_set.Unlogged.{Unlogged}
use Rattle.svscan_rounds.specs.declared.service_set.UnmadePart.{UnmadePart}
use Rattle.svscan_rounds.specs.declared.service_set.Untaken.{Untaken}
use Rattle.svscan_rounds.specs.Calls.{Call, Began, Listed, Scanned, Heard, Ended, Left}
use Rattle.svscan_rounds.specs.Orders.{Rest, Decides}
use Rattle.tai_status.specs.Extended.{Extended}
use Rattle.svscan_rounds.specs.Words.{Asks, AskNothing}

-- What svscan works with: the calls that were made, and the device on which it reports faults.
pub record Effects : Type 0 where
  pub calls : Option (List Call)
  pub faults : Device

abbrev pub effects : (calls : Option (List Call)) (faults : Device) → Effects
effects calls faults = record { calls = calls; faults = faults }

-- A round: the folder was not listed; or it was, and its rows were scanned, with what could not be done; or the scan of
-- its rows failed.
pub data Round : Type 0 where
  Unlisted : (fault : ListFault) → Round
  Scan : (listing : Listing) → (out : RoundOut) → Round
  Fails : (listing : Listing) → (fault : ScanFault) → Round

-- svscan continues after every round, except after a scan that failed for another reason than a lack of memory.
abbrev pub GoesOn : Round → Type 0
GoesOn (Unlisted fault) = ⊤
GoesOn (Scan listing out) = ⊤
GoesOn (Fails listing fault) = fault ≡ OutOfMemory

-- This is whether svscan continues.
abbrev pub Answers : (on : Bool) → Round → Type 0
Answers true round = GoesOn round
Answers false round = GoesOn round → ⊥

-- the calls of a round
abbrev pub calls_of : (folder : List ℕ) → Round → List Call
calls_of folder (Unlisted fault) = Listed folder (Err fault) ∷ []
calls_of folder (Scan listing out) = Listed folder (Ok listing) ∷ Scanned folder listing.rows.items (Ok out) ∷ []
calls_of folder (Fails listing fault) =
    Listed folder (Ok listing) ∷ Scanned folder listing.rows.items (Err fault) ∷ []

-- Messages

abbrev pub kind_name : ScanFault → List ℕ
kind_name (Unsorted place) = codes "Unsorted"
kind_name (Twice place) = codes "Twice"
kind_name Exhausted = codes "Exhausted"
kind_name OutOfMemory = codes "OutOfMemory"

-- A folder counts as listed until it can't be listed, and then until it is listed again.
abbrev pub is_listed_after : (was_listed : Bool) → ListFault → Bool
is_listed_after was_listed (list.Unlisted cause) = false
is_listed_after was_listed list.OutOfMemory = was_listed

-- the report that a folder can't be listed, for this cause
abbrev pub unable_to_list : (folder : List ℕ) → Cause → List ℕ
unable_to_list folder cause = codes "svscan: unable to list " ++ (folder ++ cause_note cause)

-- what is reported about a folder that was not listed: the cause, unless it was not listed before either
abbrev pub lines_of_unlisted : (folder : List ℕ) (was_listed : Bool) → ListFault → List (List ℕ)
lines_of_unlisted folder was_listed (list.Unlisted cause) = if was_listed then unable_to_list folder cause ∷ [] else []
lines_of_unlisted folder was_listed list.OutOfMemory = (codes "svscan: OutOfMemory" ++ 10 ∷ []) ∷ []

-- what is reported about a folder that is listed, and was not before
abbrev pub lines_of_listed : (folder : List ℕ) (was_listed : Bool) → List (List ℕ)
lines_of_listed folder was_listed =
    if was_listed then [] else (codes "svscan: " ++ (folder ++ (codes " is listed again" ++ 10 ∷ []))) ∷ []

-- what is reported about a name
abbrev pub name_report : (what : List ℕ) (name : List ℕ) → List ℕ
name_report what name = codes "svscan: " ++ (name ++ what)

abbrev pub too_many : List ℕ
too_many = codes ": TooMany" ++ 10 ∷ []

-- the report that a part can't be supervised, for this cause
abbrev pub unable_to_supervise : Cause → List ℕ
unable_to_supervise cause = codes ": unable to supervise" ++ cause_note cause

-- the report why a part was not made
abbrev pub not_made : PartFault → List ℕ
not_made part.Locked = codes ": unable to lock" ++ 10 ∷ []
not_made (part.Refused cause) = unable_to_supervise cause

abbrev pub unmade_report : UnmadePart → List ℕ
unmade_report unmade = name_report (not_made unmade.fault) unmade.name

-- the report that this many control bytes were not taken; and the one that a trace can't be written
abbrev pub not_taken : ℕ → List ℕ
not_taken count = codes ": " ++ (decimal count ++ (codes " bytes were not taken" ++ 10 ∷ []))

abbrev pub untaken_report : Untaken → List ℕ
untaken_report untaken = name_report (not_taken untaken.count) untaken.name

abbrev pub unable_to_trace : List ℕ
unable_to_trace = codes ": unable to write the trace" ++ 10 ∷ []

-- the report of what was lost, and of what a round could not do
abbrev pub lines_of_out : RoundOut → List (List ℕ)
lines_of_out out =
    map untaken_report out.untaken.items
    ++ (map (name_report unable_to_trace) out.untraced
    ++ (map (name_report too_many) out.refused ++ map unmade_report out.unmade.items))

-- the report that this many names are not text
abbrev pub not_text : ℕ → List ℕ
not_text count = codes "svscan: " ++ (decimal count ++ (codes " names are not text" ++ 10 ∷ []))

abbrev pub lines_of_unnamed : (count : ℕ) → List (List ℕ)
lines_of_unnamed count = if count == 0 then [] else not_text count ∷ []

-- the report that too few descriptors are allowed
abbrev pub too_few : Shortage → List ℕ
too_few shortage =
    codes "svscan: " ++ (decimal shortage.needed ++ (codes " descriptors are needed, "
    ++ (decimal shortage.allowed ++ (codes " are allowed" ++ 10 ∷ []))))

abbrev pub lines_of_shortage : Option Shortage → List (List ℕ)
lines_of_shortage None = []
lines_of_shortage (Some shortage) = too_few shortage ∷ []

-- the report of what is wrong with what a folder has; and the one of a fault of a scan
abbrev pub lines_of_listing : (unnamed : ℕ) → Option Shortage → List (List ℕ)
lines_of_listing unnamed shortage = lines_of_unnamed unnamed ++ lines_of_shortage shortage

abbrev pub lines_of_fault : ScanFault → List (List ℕ)
lines_of_fault fault = (codes "svscan: " ++ (kind_name fault ++ 10 ∷ [])) ∷ []

-- whether the folder counts as listed after a round
abbrev pub listed_after : (was_listed : Bool) → Round → Bool
listed_after was_listed (Unlisted fault) = is_listed_after was_listed fault
listed_after was_listed (Scan listing out) = true
listed_after was_listed (Fails listing fault) = true

-- the lines that a round reports; they depend on whether the folder counted as listed before
abbrev pub lines_of : (folder : List ℕ) (was_listed : Bool) → Round → List (List ℕ)
lines_of folder was_listed (Unlisted fault) = lines_of_unlisted folder was_listed fault
lines_of folder was_listed (Scan listing out) =
    lines_of_listed folder was_listed ++ (lines_of_listing listing.unnamed listing.shortage ++ lines_of_out out)
lines_of folder was_listed (Fails listing fault) =
    lines_of_listed folder was_listed ++ (lines_of_listing listing.unnamed listing.shortage ++ lines_of_fault fault)

-- These lines were reported, one after the other.
abbrev pub ReportsAll : List (List ℕ) → (old new : Device) → Type 0
ReportsAll [] old new = new ≡ old
ReportsAll (line ∷ lines) old new = (middle : Device) × (Reports old middle line × ReportsAll lines middle new)

-- This round was made, and nothing else.
pub record Makes (folder : List ℕ) (was_listed : Bool) (round : Round) (old new : Effects) : Type 0 where
  pub calls : Extended old.calls new.calls (calls_of folder round)
  pub reported : ReportsAll (lines_of folder was_listed round) old.faults new.faults

-- A round was made. `on` says whether svscan continues, and `is_listed` whether the folder counts as listed now.
abbrev pub TakesRound : (folder : List ℕ) (was_listed is_listed on : Bool) (old new : Effects) → Type 0
TakesRound folder was_listed is_listed on old new =
    (round : Round) × Answers on round × Makes folder was_listed round old new
    × (is_listed ≡ listed_after was_listed round)

-- A round, and the rest after it.
pub record Turn : Type 0 where
  pub round : Round
  pub rest : Rest

-- Another round comes after it.
abbrev pub IsFollowed : Turn → Type 0
IsFollowed turn = GoesOn turn.round × Decides turn.rest order.Round

abbrev pub calls_of_rest : Rest → List Call
calls_of_rest rest = map (λ byte. Heard (Some byte)) rest.passed ++ Heard rest.last ∷ []

abbrev pub calls_of_turn : (folder : List ℕ) → Turn → List Call
calls_of_turn folder turn = calls_of folder turn.round ++ calls_of_rest turn.rest

-- whether the folder counts as listed after these turns
abbrev pub listed_along : (was_listed : Bool) → List Turn → Bool
listed_along was_listed [] = was_listed
listed_along was_listed (turn ∷ turns) = listed_along (listed_after was_listed turn.round) turns

-- the lines that the rounds of these turns report, one round after the other
abbrev pub lines_along : (folder : List ℕ) (was_listed : Bool) → List Turn → List (List ℕ)
lines_along folder was_listed [] = []
lines_along folder was_listed (turn ∷ turns) =
    lines_of folder was_listed turn.round ++ lines_along folder (listed_after was_listed turn.round) turns

-- The end

-- the report that the process with this number still runs
abbrev pub still_runs : ℕ → List ℕ
still_runs pid = codes ": process " ++ (decimal pid ++ (codes " still runs" ++ 10 ∷ []))

abbrev pub remaining_report : Remaining → List ℕ
remaining_report remaining = name_report (still_runs remaining.pid) remaining.name

-- the report that this many bytes were not logged, or that records are not written
abbrev pub unfinished : Unfinished → List ℕ
unfinished (Bytes count) = codes ": " ++ (decimal count ++ (codes " bytes were not logged" ++ 10 ∷ []))
unfinished Records = codes ": unable to write its records" ++ 10 ∷ []

abbrev pub unlogged_report : Unlogged → List ℕ
unlogged_report unlogged = name_report (unfinished unlogged.what) unlogged.name

-- How a run closes after its last round. All services are ended, and these still ran, listed every five seconds; or the
-- same was asked for in a rest; or svscan's own end was asked for. At last svscan leaves the services, and this was not
-- logged.
pub data Close : Type 0 where
  Ends : (left : List (List Remaining)) → (unlogged : List Unlogged) → Close
  EndsAsAsked : (rest : Rest) → (left : List (List Remaining)) → (unlogged : List Unlogged) → Close
  LeavesAsAsked : (rest : Rest) → (unlogged : List Unlogged) → Close

abbrev pub calls_of_end : List (List Remaining) → List Unlogged → List Call
calls_of_end left unlogged = map (λ some. Ended (Some some)) left ++ Ended None ∷ Left unlogged ∷ []

abbrev pub calls_of_close : Close → List Call
calls_of_close (Ends left unlogged) = calls_of_end left unlogged
calls_of_close (EndsAsAsked rest left unlogged) = calls_of_rest rest ++ calls_of_end left unlogged
calls_of_close (LeavesAsAsked rest unlogged) = calls_of_rest rest ++ Left unlogged ∷ []

abbrev pub lines_of_end : List (List Remaining) → List Unlogged → List (List ℕ)
lines_of_end left unlogged = flat_map (map remaining_report) left ++ map unlogged_report unlogged

abbrev pub lines_of_close : Close → List (List ℕ)
lines_of_close (Ends left unlogged) = lines_of_end left unlogged
lines_of_close (EndsAsAsked rest left unlogged) = lines_of_end left unlogged
lines_of_close (LeavesAsAsked rest unlogged) = map unlogged_report unlogged

-- A rest was taken, and this is next.
pub record Rests (order : Order) (old new : Option (List Call)) : Type 0 where
  pub rest : Rest
  pub decides : Decides rest order
  pub calls : Extended old new (calls_of_rest rest)

-- The services were left.
pub record Leaves (old new : Effects) : Type 0 where
  pub unlogged : List Unlogged
  pub calls : Extended old.calls new.calls (Left unlogged ∷ [])
  pub reported : ReportsAll (map unlogged_report unlogged) old.faults new.faults

-- All services ended, and then they were left.
pub record EndsAll (old new : Effects) : Type 0 where
  pub left : List (List Remaining)
  pub unlogged : List Unlogged
  pub calls : Extended old.calls new.calls (calls_of_end left unlogged)
  pub reported : ReportsAll (lines_of_end left unlogged) old.faults new.faults

-- How a run ends after its last round, of this many in all. The status is 0 after as many rounds as were asked for, or
-- if the end was asked for in the rest after it. The status is 111 if svscan does not continue after that round.
abbrev pub EndsBy : (limit : Option ℕ) (count : ℕ) (last : Round) (close : Close) (status : ℕ) → Type 0
EndsBy limit count last (Ends left unlogged) status =
    ((status ≡ 0) × GoesOn last × (limit ≡ Some count))
    ⊎ ((status ≡ 111) × (GoesOn last → ⊥) × IfSome limit (λ rounds. count ≤ rounds))
EndsBy limit count last (EndsAsAsked rest left unlogged) status =
    (status ≡ 0) × GoesOn last × Decides rest order.End
EndsBy limit count last (LeavesAsAsked rest unlogged) status =
    (status ≡ 0) × GoesOn last × Decides rest order.Leave

-- Rounds after which svscan continues, each followed by a rest, and then the last round and the close. Before the first
-- round, the folder counts as listed.
pub record Runs (folder : List ℕ) (limit : Option ℕ) (status : ℕ) (old new : Effects) : Type 0 where
  pub turns : List Turn
  pub last : Round
  pub close : Close
  pub followed : All IsFollowed turns
  pub calls : Extended old.calls new.calls
      (flat_map (calls_of_turn folder) turns ++ (calls_of folder last ++ calls_of_close close))
  pub reported : ReportsAll (lines_along folder true turns
      ++ (lines_of folder (listed_along true turns) last ++ lines_of_close close)) old.faults new.faults
  pub ends : EndsBy limit (length turns + 1) last close status

-- what is reported about a folder that can't be read; and about one that another svscan has
abbrev pub unread_report : (folder : List ℕ) → Cause → List ℕ
unread_report folder cause = codes "svscan: unable to read " ++ (folder ++ cause_note cause)

abbrev pub locked_report : (folder : List ℕ) → List ℕ
locked_report folder = codes "svscan: unable to lock " ++ (folder ++ 10 ∷ [])

-- What is reported when svscan is to be served in a folder.
abbrev pub lines_of_begun : (folder : List ℕ) → Startup → List (List ℕ)
lines_of_begun folder Served = []
lines_of_begun folder (Unserved cause) = name_report (unable_to_supervise cause) (codes ".svscan") ∷ []
lines_of_begun folder (Refused cause) = name_report (unable_to_supervise cause) (codes ".svscan") ∷ []
lines_of_begun folder (Unread cause) = unread_report folder cause ∷ []
lines_of_begun folder Locked = locked_report folder ∷ []

-- svscan runs, unless another svscan has the folder, or the folder can't be read, or no service could be kept running.
abbrev pub RunsIfBegun : Startup → (folder : List ℕ) (limit : Option ℕ) (status : ℕ) (old new : Effects) → Type 0
RunsIfBegun Served folder limit status old new = Runs folder limit status old new
RunsIfBegun (Unserved cause) folder limit status old new = Runs folder limit status old new
RunsIfBegun ends folder limit status old new = (status ≡ 111) × (new ≡ old)

-- svscan begins, and runs.
pub record BeginsAndRuns (folder : List ℕ) (limit : Option ℕ) (status : ℕ) (old new : Effects) : Type 0 where
  pub begun : Startup
  pub middle : Effects
  pub calls : Extended old.calls middle.calls (Began folder begun ∷ [])
  pub reported : ReportsAll (lines_of_begun folder begun) old.faults middle.faults
  pub runs : RunsIfBegun begun folder limit status middle new

-- These words ask for nothing: the usage is reported, and nothing is asked of the system.
pub record RefusesWords (words : List (List ℕ)) (status : ℕ) (old new : Effects) : Type 0 where
  pub wrong : AskNothing words
  pub status_is : status ≡ 100
  pub unasked : new.calls ≡ old.calls
  pub reported : Reports old.faults new.faults (usage_text Svscan)

-- svscan runs as its words ask.
pub record RunsWords (words : List (List ℕ)) (status : ℕ) (old new : Effects) : Type 0 where
  pub folder : List ℕ
  pub limit : Option ℕ
  pub asks : Asks words folder limit
  pub runs : BeginsAndRuns folder limit status old new

abbrev pub SvscanEnds : (words : List (List ℕ)) (status : ℕ) (old new : Effects) → Type 0
SvscanEnds words status old new = RefusesWords words status old new ⊎ RunsWords words status old new
