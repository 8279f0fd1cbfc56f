-- What is asked of the maker when outputs end.
use Rattle.std.specs.Prelude.{◌≡◌, ℕ, Bool, true, false, ◌&&◌, if◌then◌else◌, List, [], ◌∷◌, Option}
use Rattle.scan_table.specs.declared.part.Role.TheVariants.{Main, Log}
use Rattle.svc_house.specs.Calls.{ExtendedWhileKept}
use Rattle.svc_host.specs.Calls.{Call, EndedOutput, AskedIsRead, CountedLost}
use Rattle.svc_host.specs.Ending.{IsSight, is_log, lives, may_leave}
use Rattle.svc_host.specs.Parts.{HostPart}
use Rattle.svc_host.specs.Rounds.{HostState}
use Rattle.svc_host.specs.declared.ending.ProcessSight.{ProcessSight}

-- A logger that was asked to exit with its process gets no more input, once all that its service wrote is put. No other
-- part's output is to end.
abbrev pub EndsInput : HostPart → (old new : Option (List Call)) → Type 0
EndsInput part old new = ExtendedWhileKept old new
    (if part.end_bytes.exit && is_log part.id.role then EndedOutput part.id.slot false ∷ [] else [])

-- The output of a slot's service is to end, at once if the service has a process. Whether svscan may leave the pair
-- follows from what was put, what the maker answers and what is seen of the logger.
pub record EndsOutput (slot : ℕ) (is_put leaves : Bool) (olds news : List HostPart) (old new : Option (List Call))
    : Type 0 where
  pub service : ProcessSight
  pub logger : ProcessSight
  pub mid : List HostPart
  pub service_seen : IsSight slot Main olds mid service
  pub logger_seen : IsSight slot Log mid news logger
  pub is_read : Bool
  pub asked : ExtendedWhileKept old new (EndedOutput slot (lives service) ∷ AskedIsRead slot is_read ∷ [])
  pub leaves_so : leaves ≡ may_leave is_put is_read logger

-- It was asked once how many bytes of a slot's output were lost, after the output was asked to end at once. A logger
-- with a process still reads what is in its input.
pub record CountsLost (slot count : ℕ) (old new : HostState) : Type 0 where
  pub logger : ProcessSight
  pub logger_seen : IsSight slot Log old.parts new.parts logger
  pub asked : ExtendedWhileKept old.calls new.calls
      (EndedOutput slot true ∷ CountedLost slot (lives logger) count ∷ [])
