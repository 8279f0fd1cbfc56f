-- What supervise does with one service (cr.yp.to/daemontools/supervise.html).
use Rattle.std.specs.Prelude.{◌≡◌, ℕ, ◌==◌, if◌then◌else◌, Bool, List, [], ◌∷◌, ◌++◌, map, flat_map, codes}
use Rattle.std.specs.Prelude.{Option, None, Some}
use Rattle.tai_status.specs.Causes.{cause_note}
use Rattle.tai_status.specs.Counted.{Reports}
use Rattle.tai_status.specs.Extended.{Extended}
use Rattle.tai_status.specs.declared.cause.Cause.{Cause}
use Rattle.cmd_base.specs.Usage.{usage_text}
use Rattle.cmd_base.specs.declared.command.Command.TheVariants as command
use Rattle.svc_host.specs.declared.maker.PartFault.{PartFault}
use Rattle.svc_host.specs.declared.maker.PartFault.TheVariants.{Locked, Refused}
use Rattle.svc_host.specs.declared.part.Loss.{Loss}
use Rattle.svscan_rounds.specs.declared.service_set.Sight.TheVariants.{Runs, Gone}
use Rattle.svscan_rounds.specs.declared.service_set.Supervision.{Supervision}
use Rattle.svscan_rounds.specs.declared.service_set.Supervision.TheVariants.{Kept, Unmade}
use Rattle.svscan_rounds.specs.Calls.{Call, Supervised, Watched}
use Rattle.svscan_rounds.specs.Rounds.{Effects, ReportsAll, not_taken, unable_to_trace}

-- Messages

-- what is reported about a service that somebody else supervises; and about one that can't be begun, or that has no
-- sockets yet
abbrev pub locked_report : (folder : List ℕ) → List ℕ
locked_report folder = codes "supervise: unable to lock " ++ (folder ++ 10 ∷ [])

abbrev pub refused_report : (folder : List ℕ) → Cause → List ℕ
refused_report folder cause = codes "supervise: unable to supervise " ++ (folder ++ cause_note cause)

abbrev pub fault_report : (folder : List ℕ) → PartFault → List ℕ
fault_report folder Locked = locked_report folder
fault_report folder (Refused cause) = refused_report folder cause

-- what is reported about a service that runs: why it has no sockets, if it has none
abbrev pub lines_of_kept : (folder : List ℕ) → Option PartFault → List (List ℕ)
lines_of_kept folder None = []
lines_of_kept folder (Some fault) = fault_report folder fault ∷ []

abbrev pub lines_of_supervision : (folder : List ℕ) → Supervision → List (List ℕ)
lines_of_supervision folder (Kept fault) = lines_of_kept folder fault
lines_of_supervision folder (Unmade fault) = fault_report folder fault ∷ []

-- what is reported about a service that is gone: how many control bytes it did not take, and that its last trace is not
-- whole
abbrev pub lines_of_untaken : (folder : List ℕ) (count : ℕ) → List (List ℕ)
lines_of_untaken folder count = if count == 0 then [] else (codes "supervise: " ++ (folder ++ not_taken count)) ∷ []

abbrev pub lines_of_trace : (folder : List ℕ) (lacks_trace : Bool) → List (List ℕ)
lines_of_trace folder lacks_trace =
    if lacks_trace then (codes "supervise: " ++ (folder ++ unable_to_trace)) ∷ [] else []

abbrev pub lines_of_loss : (folder : List ℕ) → Loss → List (List ℕ)
lines_of_loss folder loss = lines_of_untaken folder loss.untaken ++ lines_of_trace folder loss.lacks_trace

-- The run

abbrev pub still_runs : Option PartFault → Call
still_runs fault = Watched (Runs fault)

-- The service was watched over until it was gone, and nothing else was done. Each time before, it ran.
pub record Outlasts (folder : List ℕ) (old new : Effects) : Type 0 where
  pub faults : List (Option PartFault)
  pub loss : Loss
  pub calls : Extended old.calls new.calls (map still_runs faults ++ Watched (Gone loss) ∷ [])
  pub reported : ReportsAll (flat_map (lines_of_kept folder) faults ++ lines_of_loss folder loss) old.faults new.faults

-- If the service is kept running, it is outlasted, and the status is 0. Otherwise nothing more is done, and the
-- status is 111.
abbrev pub OutlastsIfKept : Supervision → (folder : List ℕ) (status : ℕ) (old new : Effects) → Type 0
OutlastsIfKept (Kept fault) folder status old new = (status ≡ 0) × Outlasts folder old new
OutlastsIfKept (Unmade fault) folder status old new = (status ≡ 111) × (new ≡ old)

-- The service in the folder was begun, once.
pub record Supervises (folder : List ℕ) (status : ℕ) (old new : Effects) : Type 0 where
  pub supervision : Supervision
  pub middle : Effects
  pub calls : Extended old.calls middle.calls (Supervised folder supervision ∷ [])
  pub reported : ReportsAll (lines_of_supervision folder supervision) old.faults middle.faults
  pub outlasts : OutlastsIfKept supervision folder status middle new

-- The words are wrong: the usage is reported, and nothing is asked of the system.
pub record RefusesWords (status : ℕ) (old new : Effects) : Type 0 where
  pub status_is : status ≡ 100
  pub unasked : new.calls ≡ old.calls
  pub reported : Reports old.faults new.faults (usage_text command.Supervise)

-- supervise takes one word, the folder of the service.
abbrev pub SuperviseEnds : (words : List (List ℕ)) (status : ℕ) (old new : Effects) → Type 0
SuperviseEnds [] status old new = RefusesWords status old new
SuperviseEnds (folder ∷ []) status old new = Supervises folder status old new
SuperviseEnds (folder ∷ other ∷ words) status old new = RefusesWords status old new
