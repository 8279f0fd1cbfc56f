-- A history of a service, and what it says. Each fact comes from the last event that concerns it. The facts are those
-- of daemontools' pages on supervise and svc.
use Rattle.std.specs.Prelude.{ℕ, Bool, true, false, not, ◌&&◌, ◌==◌, nat_lt, if◌then◌else◌, List, codes, Option, Some}
use Rattle.std.specs.Prelude.{None}
use Rattle.std.specs.List.{list_any}
use Rattle.tai_status.specs.Label.{Tai64n, plus_second}
use Rattle.tai_status.specs.Record.{Status}
use Rattle.tai_status.specs.Full.{FullStatus}
use Rattle.tai_status.specs.declared.record.Want.{Want}
use Rattle.tai_status.specs.declared.record.Want.TheVariants as want
use Rattle.sup_core.specs.declared.event.Event.{Event}
use Rattle.sup_core.specs.declared.event.Event.TheVariants.{Byte, Started, StartFailed, Death, Clock}
use Rattle.tai_status.specs.declared.phase.Phase.{Phase}
use Rattle.tai_status.specs.declared.phase.Phase.TheVariants as phase
use Rattle.sup_core.specs.State.{State, full_in, is_up}

-- A history is an opening and the events taken since then, the last one outermost. It opens when supervise begins, with
-- or without the `down` file, or with a machine in some state.
pub data History : Type 0 where
  Begin : Bool → Tai64n → History
  Opened : State → History
  Then : History → Event → History

-- whether a byte is one of these letters
abbrev pub is_among : List ℕ → ℕ → Bool
is_among letters byte = list_any (λ letter. byte == letter) letters

-- Facts

-- The process number is that of the last start if no death came after it, and 0 otherwise.
abbrev pub pid_of : History → ℕ
pid_of (Begin down label) = 0
pid_of (Opened state) = state.status.pid
pid_of (Then past (Started pid label)) = pid
pid_of (Then past (Death label)) = 0
pid_of (Then past event) = pid_of past

abbrev pub runs : History → Bool
runs history = nat_lt 0 (pid_of history)

-- The last of u, d and o says what is wanted.
abbrev pub want_of : History → Want
want_of (Begin down label) = if down then want.Down else want.Up
want_of (Opened state) = state.status.want
want_of (Then past (Byte byte)) =
    if is_among (codes "u") byte then want.Up
    else if is_among (codes "d") byte then want.Down
    else if is_among (codes "o") byte then want.Once
    else want_of past
want_of (Then past event) = want_of past

abbrev pub wants_up : History → Bool
wants_up history = is_up (want_of history)

-- A process is paused if the last of its start, p, c and d is p.
abbrev pub paused_of : History → Bool
paused_of (Begin down label) = false
paused_of (Opened state) = state.status.paused
paused_of (Then past (Started pid label)) = false
paused_of (Then past (Death label)) = false
paused_of (Then past (Byte byte)) =
    if is_among (codes "p") byte then runs past
    else if is_among (codes "cd") byte then false
    else paused_of past
paused_of (Then past event) = paused_of past

-- The label is that of the last start or death.
abbrev pub label_of : History → Tai64n
label_of (Begin down label) = label
label_of (Opened state) = state.status.label
label_of (Then past (Started pid label)) = label
label_of (Then past (Death label)) = label
label_of (Then past event) = label_of past

-- Whether the byte x occurs.
abbrev pub exiting_of : History → Bool
exiting_of (Begin down label) = false
exiting_of (Opened state) = state.exiting
exiting_of (Then past (Byte byte)) = if is_among (codes "x") byte then true else exiting_of past
exiting_of (Then past event) = exiting_of past

abbrev pub status_of : History → Status
status_of history = record {
  label = label_of history;
  pid = pid_of history;
  paused = paused_of history;
  want = want_of history;
}

-- Starts

abbrev pub is_resting : Phase → Bool
is_resting phase.Resting = true
is_resting other = false

-- A failed start comes last, or the history opens at rest after one.
abbrev pub ends_in_failure : History → Bool
ends_in_failure (Then past (StartFailed label)) = true
ends_in_failure (Opened state) = is_resting state.phase
ends_in_failure history = false

-- A history calls for a start if its last item is one of these:
-- - a beginning that wants up
-- - a byte u or o with no process before it
-- - a death, if up is wanted and there is no exit
-- - a clock reading that ends the rest after a failed start, if up is wanted
abbrev pub calls_for_start : History → Bool
calls_for_start (Begin down label) = wants_up (Begin down label)
calls_for_start (Then past (Byte byte)) = is_among (codes "uo") byte && not (runs past)
calls_for_start (Then past (Death label)) = wants_up past && not (exiting_of past)
calls_for_start (Then past (Clock label)) = wants_up past && ends_in_failure past
calls_for_start history = false

-- Phases

-- the phase if no start is called for and no start has just succeeded or failed
abbrev pub phase_at_rest : History → Phase
phase_at_rest history =
    if runs history then phase.Up else if exiting_of history then phase.Gone else phase.Down

abbrev pub phase_by_end : History → Phase
phase_by_end (Then past (Started pid label)) = phase.Settling
phase_by_end (Then past (StartFailed label)) = phase.Resting
phase_by_end history = phase_at_rest history

abbrev pub phase_of : History → Phase
phase_of (Opened state) = state.phase
phase_of history = if calls_for_start history then phase.Starting else phase_by_end history

-- Settling and resting last until one second after the label of the start or of its failure.
abbrev pub until_of : History → Option Tai64n
until_of (Opened state) = state.until
until_of (Then past (Started pid label)) = Some (plus_second label)
until_of (Then past (StartFailed label)) = Some (plus_second label)
until_of history = None

abbrev pub state_of : History → State
state_of history = record {
  phase = phase_of history;
  status = status_of history;
  exiting = exiting_of history;
  until = until_of history;
}

-- what the full record says
abbrev pub full_of : History → FullStatus
full_of history = full_in (state_of history)
