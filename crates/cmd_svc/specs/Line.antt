-- The line that says in which state a service is, as svstat prints it (cr.yp.to/daemontools/svstat.html).
use Rattle.std.specs.Prelude.{ℕ, ◌-◌, nat_le, Bool, true, false, not, ◌&&◌, if◌then◌else◌, List, [], ◌++◌, codes}
use Rattle.std.specs.Prelude.{decimal}
use Rattle.tai_status.specs.Label.{Tai64n}
use Rattle.tai_status.specs.Record.{Status}
use Rattle.tai_status.specs.Phase.{phase_name}
use Rattle.tai_status.specs.Loading.{status_in}
use Rattle.tai_status.specs.declared.loading.Loaded.{Loaded}
use Rattle.tai_status.specs.declared.loading.Loaded.TheVariants.{Old, New}
use Rattle.tai_status.specs.declared.phase.Phase.{Phase}
use Rattle.tai_status.specs.declared.phase.Phase.TheVariants as phase
use Rattle.tai_status.specs.declared.record.Want.{Want}
use Rattle.tai_status.specs.declared.record.Want.TheVariants.{Up, Down, Once}
use Rattle.svc_record.specs.Opening.{exiting_in}
use Rattle.cmd_svc.specs.Course.{course_note}
use Rattle.cmd_svc.specs.declared.course.Course.{Course}

abbrev pub wants_up : Want → Bool
wants_up Up = true
wants_up Down = false
wants_up Once = false

abbrev pub wants_down : Want → Bool
wants_down Up = false
wants_down Down = true
wants_down Once = false

-- A service runs if it has a process, whose number is at least 1.
abbrev pub is_running : Status → Bool
is_running status = nat_le 1 status.pid

abbrev pub state_text : Status → List ℕ
state_text status = if is_running status then codes "up (pid " ++ decimal status.pid ++ codes ")" else codes "down"

-- whole seconds since the last change of process, 0 if that is still to come
abbrev pub seconds : Status → Tai64n → ℕ
seconds status now = now.sec - status.label.sec

-- a note, if it applies; and the notes on what is normal and on what is wanted
abbrev pub note : Bool → List ℕ → List ℕ
note holds text = if holds then text else []

abbrev pub normal_notes : Status → Bool → List ℕ
normal_notes status normally_up =
    note (is_running status && not normally_up) (codes ", normally down")
    ++ note (not (is_running status) && normally_up) (codes ", normally up")

abbrev pub want_notes : Status → List ℕ
want_notes status =
    note (not (is_running status) && wants_up status.want) (codes ", want up")
    ++ note (is_running status && wants_down status.want) (codes ", want down")

-- the note on a phase that does not show from the process
abbrev pub phase_note : Phase → List ℕ
phase_note phase.Up = []
phase_note phase.Down = []
phase_note other = codes ", " ++ phase_name other

-- the note on the phase of supervise, if a record has it; and whether a record says that supervise is to end
abbrev pub phase_notes : Loaded → List ℕ
phase_notes (Old status) = []
phase_notes (New full) = phase_note full.phase

-- what a status says about the service in this folder
abbrev pub plain_line : List ℕ → Status → Bool → Tai64n → List ℕ
plain_line folder status normally_up now =
    folder ++ codes ": " ++ state_text status ++ codes " " ++ decimal (seconds status now) ++ codes " seconds"
    ++ normal_notes status normally_up
    ++ note status.paused (codes ", paused")
    ++ want_notes status

-- the line about a service in this folder, without a newline
abbrev pub status_line : List ℕ → Loaded → Bool → Tai64n → Course → List ℕ
status_line folder loaded normally_up now course =
    plain_line folder (status_in loaded) normally_up now
    ++ phase_notes loaded
    ++ note (exiting_in loaded) (codes ", exiting")
    ++ course_note course now
