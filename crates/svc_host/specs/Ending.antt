-- How all services end, in order, and when svscan may leave them.
use Rattle.std.specs.Prelude.{◌≡◌, ◌⊎◌, ◌<◌, ℕ, zero, suc, ◌==◌, nat_le, nat_lt, Bool, true, false, ◌&&◌}
use Rattle.std.specs.Prelude.{if◌then◌else◌, List}
use Rattle.std.specs.Prelude.{MatchBool, length, slice_index_or, slice_set}
use Rattle.std.specs.List.{All}
use Rattle.sup_core.specs.History.{state_of}
use Rattle.sup_core.specs.State.{State}
use Rattle.tai_status.specs.declared.phase.Phase.{Phase}
use Rattle.tai_status.specs.declared.phase.Phase.TheVariants as phase
use Rattle.scan_table.specs.declared.part.Role.{Role}
use Rattle.scan_table.specs.declared.part.Role.TheVariants.{Main, Log}
use Rattle.svc_host.specs.Parts.{GoOn, HasPosted, HostPart, IsRead, IsRefused, history_of, runs_at, service_runs}
use Rattle.svc_host.specs.declared.ending.TheConstants.{LOGGER_MILLIS}
use Rattle.svc_host.specs.declared.ending.EndStep.{EndStep}
use Rattle.svc_host.specs.declared.ending.EndStep.TheVariants.{Stop, Exit, Wait}
use Rattle.svc_host.specs.declared.ending.ProcessSight.{ProcessSight}
use Rattle.svc_host.specs.declared.ending.ProcessSight.TheVariants.{Lives, Comes, Absent}

-- The next step for a part. A service must stop at once. Its logger is left alone while the service runs. Then the
-- logger must exit with its process, and must stop at once after five seconds. The logger of an earlier svscan is left
-- alone until then: it reads another input than this svscan's, and the logger that follows it reads this one.
abbrev pub end_step : Role → (service_runs is_adopted : Bool) → (waited : ℕ) → EndStep
end_step Main service_runs is_adopted waited = Stop
end_step Log true is_adopted waited = Wait
end_step Log false is_adopted waited = if nat_le LOGGER_MILLIS waited then Stop else if is_adopted then Wait else Exit

abbrev pub is_log : Role → Bool
is_log Main = false
is_log Log = true

-- whether the process with this number is the adopted one; 0 means no process
abbrev pub is_adopted : (pid adopted : ℕ) → Bool
is_adopted pid adopted = nat_lt 0 pid && pid == adopted

-- what is seen of a part without a process, in this phase
abbrev pub sight_without : Phase → ProcessSight
sight_without phase.Starting = Comes
sight_without phase.Resting = Comes
sight_without phase = Absent

-- whether a process is seen
abbrev pub lives : ProcessSight → Bool
lives Lives = true
lives Comes = false
lives Absent = false

-- whether the process that a part has is the adopted one
abbrev pub has_adopted : HostPart → Bool
has_adopted part = is_adopted (state_of (history_of part)).status.pid part.adopted

-- the next step for a part
abbrev pub next_step : (service_runs : Bool) → (waited : ℕ) → HostPart → EndStep
next_step service_runs waited part =
    if part.has_ended then Wait else end_step part.id.role service_runs (has_adopted part) waited

-- `d` was posted, unless it had been posted or the mailbox was full.
abbrev pub PostsDown : HostPart → HostPart → Type 0
PostsDown old new =
    ((old.end_bytes.down ≡ true) × (new ≡ old))
    ⊎ ((posted : HostPart) × (old.end_bytes.down ≡ false) × HasPosted old 100 posted
    × (new ≡ record posted { end_bytes = record posted.end_bytes { down = true } }))
    ⊎ ((old.end_bytes.down ≡ false) × IsRefused old new)

-- `x` was posted, unless it had been posted or the mailbox was full.
abbrev pub PostsExit : HostPart → HostPart → Type 0
PostsExit old new =
    ((old.end_bytes.exit ≡ true) × (new ≡ old))
    ⊎ ((posted : HostPart) × (old.end_bytes.exit ≡ false) × HasPosted old 120 posted
    × (new ≡ record posted { end_bytes = record posted.end_bytes { exit = true } }))
    ⊎ ((old.end_bytes.exit ≡ false) × IsRefused old new)

-- The bytes of a step were posted, each once in the end of all services, as far as the mailbox had room. For a stop,
-- these are `d` and after it `x`.
abbrev pub PostsStep : EndStep → HostPart → HostPart → Type 0
PostsStep Stop old new =
    (down : HostPart) × PostsDown old down × MatchBool down.end_bytes.down (PostsExit down new) (new ≡ down)
PostsStep Exit old new = PostsExit old new
PostsStep Wait old new = new ≡ old

-- The next step was posted to the part, after the events that the host has read of it.
pub record EndsNext (service_runs : Bool) (waited : ℕ) (old new : HostPart) : Type 0 where
  pub read : HostPart
  pub is_read : IsRead old read
  pub posts : PostsStep (next_step service_runs waited read) read new

-- The next step was posted to one of the parts. For a logger it depends on whether its service runs.
pub record IsEndStep (old : List HostPart) (place : ℕ) (new : List HostPart) : Type 0 where
  pub waited : ℕ
  pub part : HostPart
  pub next : (d : HostPart) → EndsNext (service_runs (slice_index_or old place d).id.slot old) waited
      (slice_index_or old place d) part
  pub parts : new ≡ slice_set old place part

-- The next step was posted to each of the first parts, this many of them, one after the other.
abbrev pub EndSteps : (count : ℕ) → (old new : List HostPart) → Type 0
EndSteps zero old new = new ≡ old
EndSteps (suc count) old new = (mid : List HostPart) × EndSteps count old mid × IsEndStep mid count new

-- The next step was posted to each part, after the threads of the parts that have ended were joined.
abbrev pub EndsAll : (old new : List HostPart) → Type 0
EndsAll old new = (joined : List HostPart) × GoOn old joined × EndSteps (length joined) joined new

-- what is seen of the process of a part with this machine; if it reads another input, as a logger does that an earlier
-- svscan started, the one that counts is still to come
abbrev pub sight_of : State → (reads_another : Bool) → ProcessSight
sight_of machine reads_another =
    if nat_lt 0 machine.status.pid then (if reads_another then Comes else Lives) else sight_without machine.phase

-- what is seen of the process of a part
abbrev pub part_sight : HostPart → ProcessSight
part_sight part = sight_of (state_of (history_of part)) (is_log part.id.role && has_adopted part)

-- What is seen of the part with this role in a slot. If one runs, this follows from its events, as far as the host has
-- read them. If none runs, the result is `Absent`.
abbrev pub IsSight : (slot : ℕ) → Role → (old new : List HostPart) → ProcessSight → Type 0
IsSight slot role old new sight =
    (All (λ part. runs_at slot role part ≡ false) old × (new ≡ old) × (sight ≡ Absent))
    ⊎ ((place : ℕ) × (part : HostPart) × (place < length old)
    × ((d : HostPart) → (runs_at slot role (slice_index_or old place d) ≡ true)
    × IsRead (slice_index_or old place d) part)
    × (new ≡ slice_set old place part) × (sight ≡ part_sight part))

-- Whether svscan may leave a pair whose output was asked to end. It may if nothing would be lost: all of it is in the
-- logger's input, and was read or will be. It may also if nothing can be saved: no logger will come.
abbrev pub may_leave : (is_put is_read : Bool) → ProcessSight → Bool
may_leave is_put is_read Lives = is_put
may_leave is_put is_read Comes = is_put && is_read
may_leave is_put is_read Absent = true
