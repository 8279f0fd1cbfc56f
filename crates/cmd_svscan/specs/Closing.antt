-- What the end of all services does to their host, and what leaving them does.
use Rattle.std.specs.Prelude.{◌≡◌, ◌⊎◌, List, [], ◌∷◌, Option, Some, None}
use mathlib.Core.List.{IsPrefix}
use Rattle.svc_host.specs.Calls.{LeftOwn}
use Rattle.svc_host.specs.Ending.{EndsAll}
use Rattle.svc_host.specs.HostRun.{Runs}
use Rattle.svc_host.specs.Parts.{AreHeard, HostPart, count_running}
use Rattle.svc_host.specs.Rounds.{AreCollected, HostState}
use Rattle.svscan_rounds.specs.declared.service_set.Remaining.{Remaining}
use Rattle.svscan_rounds.specs.declared.service_set.Unlogged.{Unlogged}
use Rattle.cmd_svscan.specs.Asking.{IsAsked}
use Rattle.cmd_svscan.specs.Leftovers.{FindsFirstUnlogged, FindsRemaining}

-- The next step was posted to each part, with these parts as the result, and so on for the next ones.
abbrev pub EndsAlong : List (List HostPart) → (old new : List HostPart) → Type 0
EndsAlong [] old new = new ≡ old
EndsAlong (next ∷ steps) old new = EndsAll old next × EndsAlong steps next new

abbrev pub EndInTurn : (old new : List HostPart) → Type 0
EndInTurn old new = (steps : List (List HostPart)) × EndsAlong steps old new

-- The end of all services continued, by at least one step.
pub record GoesOnEnding (old new : List HostPart) : Type 0 where
  pub before : List HostPart
  pub earlier : EndInTurn old before
  pub last : EndsAll before new

-- The processes that still run were found, or there was no memory for that.
abbrev pub FindsStill : (old : HostState) → List Remaining → (new : HostState) → Type 0
FindsStill old left new = FindsRemaining old left new ⊎ (left ≡ [])

-- The end of all services continued. After that no part runs, or those that do were looked for.
abbrev pub Ends : (old : HostState) → Option (List Remaining) → (new : HostState) → Type 0
Ends old None new = GoesOnEnding old.parts new.parts × (count_running new.parts ≡ 0)
Ends old (Some left) new =
    (ended : HostState) × GoesOnEnding old.parts ended.parts × FindsStill ended left new

-- The services were left. Their outputs were asked to end, and what was not logged was found. Then the threads of the
-- parts that ended were joined, and traces were kept. svscan itself is no longer served.
pub record Leaves (old : HostState) (unlogged : List Unlogged) (new : HostState) : Type 0 where
  pub some : List Unlogged
  pub before : HostState
  pub outputs : Runs old before
  pub after : HostState
  pub found : FindsFirstUnlogged before some after
  pub first : IsPrefix some unlogged
  pub joined : HostState
  pub collected : AreCollected after joined
  pub kept : HostState
  pub table : kept.table ≡ joined.table
  pub parts : AreHeard joined.parts kept.parts
  pub left : IsAsked (LeftOwn ∷ []) kept new
