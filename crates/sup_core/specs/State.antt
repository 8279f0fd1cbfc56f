-- The state of a machine: its phase, what its status record says, whether supervise exits after the process, and until
-- when it settles or rests.
use Rattle.std.specs.Prelude.{◌≡◌, ◌<◌, ◌==◌, ◌&&◌, nat_lt, Bool, true, false, if◌then◌else◌, Option, Some, None}
use Rattle.std.specs.Prelude.{is_none, IsSomeAnd}
use Rattle.tai_status.specs.Label.{Tai64n, plus_second}
use Rattle.tai_status.specs.Record.{Status}
use Rattle.tai_status.specs.Full.{FullStatus, StandsIn, full_with, stands_in}
use Rattle.tai_status.specs.declared.record.Want.{Want}
use Rattle.tai_status.specs.declared.record.Want.TheVariants as want
use Rattle.tai_status.specs.declared.phase.Phase.{Phase}
use Rattle.tai_status.specs.declared.phase.Phase.TheVariants as phase

pub record State : Type 0 where
  pub phase : Phase
  pub status : Status
  pub exiting : Bool
  pub until : Option Tai64n

-- whether supervise is done, and takes nothing more
abbrev pub is_gone : Phase → Bool
is_gone phase.Gone = true
is_gone other = false

abbrev pub is_up : Want → Bool
is_up want.Up = true
is_up other = false

-- what the full record of a machine says
abbrev pub full_in : State → FullStatus
full_in s = full_with s.status s.phase s.exiting

-- Until when a machine settles or rests: one second past the view's label, or one second past some label.
abbrev pub WaitsUntil : Phase → Status → Option Tai64n → Type 0
WaitsUntil phase.Settling status until = until ≡ Some (plus_second status.label)
WaitsUntil phase.Resting status until = IsSomeAnd until (λ until. 0 < until.sec)
WaitsUntil other status until = until ≡ None

-- The possible states of a machine: those of a service in that phase, with the right time until when it waits.
abbrev pub IsState : State → Type 0
IsState s = StandsIn s.phase s.status s.exiting × WaitsUntil s.phase s.status s.until

-- The same condition as a test, for reading: `is_state-decides` in proofs/Standing proves that the two agree.

abbrev pub is_label : Tai64n → Option Tai64n → Bool
is_label label (Some until) = (until.sec == label.sec) && (until.nano == label.nano)
is_label label None = false

-- whether this can be one second past a label
abbrev pub is_second_past : Option Tai64n → Bool
is_second_past (Some until) = nat_lt 0 until.sec
is_second_past None = false

abbrev pub waits_until : Phase → Status → Option Tai64n → Bool
waits_until phase.Settling status until = is_label (plus_second status.label) until
waits_until phase.Resting status until = is_second_past until
waits_until other status until = is_none until

abbrev pub is_state : State → Bool
is_state s = stands_in s.phase s.status s.exiting && waits_until s.phase s.status s.until

-- Words of private functions only

-- the phase of a service after its process died
abbrev pub phase_after_death : Status → Bool → Phase
phase_after_death status exiting =
    if exiting then phase.Gone else if is_up status.want then phase.Starting else phase.Down

-- the phase of a service after it settled or rested
abbrev pub phase_after_pause : Phase → Status → Phase
phase_after_pause phase.Settling status = phase.Up
phase_after_pause other status = if is_up status.want then phase.Starting else phase.Down
