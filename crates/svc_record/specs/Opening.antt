-- How a service begins, by what an earlier svscan left of it.
use Rattle.std.specs.Prelude.{◌≡◌, ◌==◌, ⊤, ℕ, Bool, true, false, not, if◌then◌else◌, Option, Some, None}
use Rattle.tai_status.specs.Label.{Tai64n, plus_second}
use Rattle.tai_status.specs.Record.{Status}
use Rattle.tai_status.specs.Full.{FullStatus}
use Rattle.tai_status.specs.Loading.{status_in}
use Rattle.tai_status.specs.declared.loading.Loaded.{Loaded}
use Rattle.tai_status.specs.declared.loading.Loaded.TheVariants.{Old, New}
use Rattle.tai_status.specs.declared.record.Want.{Want}
use Rattle.tai_status.specs.declared.record.Want.TheVariants as want
use Rattle.tai_status.specs.declared.phase.Phase.{Phase}
use Rattle.tai_status.specs.declared.phase.Phase.TheVariants as phase
use Rattle.sup_core.specs.State.{State, is_gone, is_up}
use Rattle.sup_core.specs.History.{History, Begin, Opened}
use Rattle.svc_record.specs.declared.process.Fate.{Fate}
use Rattle.svc_record.specs.declared.process.Fate.TheVariants.{Unknown, Gone, Lives}
use Rattle.svc_record.specs.declared.opening.Left.{Left}
use Rattle.svc_record.specs.declared.opening.Opening.{Opening}
use Rattle.svc_record.specs.declared.opening.Opening.TheVariants.{ByRow, Wanted, AsLeft}

-- the history with which a service begins; `down` says whether its row has the `down` file
abbrev pub beginning : Opening → (down : Bool) → (label : Tai64n) → History
beginning ByRow down label = Begin down label
beginning (Wanted wanted_down) down label = Begin wanted_down label
beginning (AsLeft state) down label = Opened state

-- The machine that was left is not gone.
abbrev pub BeginsAlive : Opening → Type 0
BeginsAlive (AsLeft state) = is_gone state.phase ≡ false
BeginsAlive other = ⊤

-- Machines

-- until when a machine in a recorded state waits; a record does not say until when a service rests
abbrev pub until_of : Phase → Status → Option Tai64n
until_of phase.Settling status = Some (plus_second status.label)
until_of other status = None

-- the machine in a full record
abbrev pub as_recorded : FullStatus → State
as_recorded full = record {
  phase = full.phase;
  status = full.status;
  exiting = full.exiting;
  until = until_of full.phase full.status;
}

-- the machine of a service that is up since this label
abbrev pub up_since : Tai64n → (pid : ℕ) → (paused : Bool) → Want → (exiting : Bool) → State
up_since label pid paused wanted exiting = record {
  phase = phase.Up;
  status = record { label = label; pid = pid; paused = paused; want = wanted };
  exiting = exiting;
  until = None;
}

abbrev pub exiting_in : Loaded → Bool
exiting_in (Old status) = false
exiting_in (New full) = full.exiting

-- the machine in a record that names a process
abbrev pub running : Loaded → State
running (Old status) = up_since status.label status.pid status.paused status.want false
running (New full) = as_recorded full

-- The machine of a process that is still alive: the one in the record, if the record names that process. A record that
-- names another process, or none, would have been replaced after the start. The service is then up since it was found,
-- and what is wanted stays. Without a record the service is wanted up.
abbrev pub adopted : Option Loaded → (pid : ℕ) → (found : Tai64n) → State
adopted None pid found = up_since found pid false want.Up false
adopted (Some loaded) pid found =
    if (status_in loaded).pid == pid then running loaded
    else up_since found pid false (status_in loaded).want (exiting_in loaded)

-- Without a process

abbrev pub is_down : Phase → Bool
is_down phase.Down = true
is_down other = false

-- How a service without its process begins. If it was to exit, it begins by its row. If it was down, it stays down.
-- Otherwise it is started only if it is wanted up.
abbrev pub without_process : FullStatus → Opening
without_process full =
    if full.exiting then ByRow
    else if is_down full.phase then AsLeft (as_recorded full)
    else Wanted (if is_up full.status.want then false else true)

-- How a service begins. A record counts only if a process was recorded in this boot. If that process is alive, it is
-- adopted.
abbrev pub opening_of : Option Loaded → Fate → (found : Tai64n) → Opening
opening_of record_left (Lives process) found = AsLeft (adopted record_left process.pid found)
opening_of (Some (New full)) Gone found = without_process full
opening_of record_left other found = ByRow

-- whether both are the same
abbrev pub is_want : Want → Want → Bool
is_want want.Up want.Up = true
is_want want.Down want.Down = true
is_want want.Once want.Once = true
is_want one other = false

-- A record is stale if the service's place, which is written first, wants something else, or if there is no record.
abbrev pub is_stale : Option Loaded → Want → Bool
is_stale None wanted = true
is_stale (Some loaded) wanted = not (is_want (status_in loaded).want wanted)

abbrev pub was_exiting : Option Loaded → Bool
was_exiting None = false
was_exiting (Some loaded) = exiting_in loaded

-- How a service with a stale record begins, if this is wanted. A process that is alive is up since it was found.
-- Without a process the service begins up or down.
abbrev pub by_want_of : Option Loaded → Fate → (found : Tai64n) → Want → Opening
by_want_of record_left (Lives process) found wanted =
    AsLeft (up_since found process.pid false wanted (was_exiting record_left))
by_want_of record_left Gone found wanted = Wanted (not (is_want wanted want.Up))
by_want_of record_left Unknown found wanted = ByRow

abbrev pub by_want : Left → Want → Opening
by_want left wanted = by_want_of left.record left.process left.label wanted

abbrev pub opening_by : (wanted : Option Want) → Left → Opening
opening_by None left = opening_of left.record left.process left.label
opening_by (Some wanted) left =
    if is_stale left.record wanted then by_want left wanted else opening_of left.record left.process left.label

abbrev pub opening_left : Left → Opening
opening_left left = opening_by left.want left
