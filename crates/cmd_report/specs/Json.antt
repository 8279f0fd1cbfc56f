-- A look at a service as a JSON object (RFC 8259): the tokens of its text.
use Rattle.std.specs.Prelude.{◌≡◌, ℕ, Bool, false, if◌then◌else◌, List, [], ◌∷◌, ◌++◌, codes, decimal, Option, Some}
use Rattle.std.specs.Prelude.{None}
use Rattle.json.specs.Token.{Token, begin_object, end_object, key, string, number, boolean, null}
use Rattle.json.specs.Print.{print}
use Rattle.json.specs.Written.{Written}
use Rattle.tai_status.specs.Label.{Tai64n}
use Rattle.tai_status.specs.Record.{Status}
use Rattle.tai_status.specs.Loading.{status_in}
use Rattle.tai_status.specs.Phase.{phase_name}
use Rattle.tai_status.specs.declared.loading.Loaded.{Loaded}
use Rattle.tai_status.specs.declared.loading.Loaded.TheVariants.{Old, New}
use Rattle.tai_status.specs.declared.record.Want.{Want}
use Rattle.tai_status.specs.declared.record.Want.TheVariants as want
use Rattle.cmd_svc.specs.Line.{is_running, seconds}
use Rattle.cmd_svc.specs.Svstat.{fault_name}
use Rattle.svc_client.specs.declared.services.Unreached.{Unreached}
use Rattle.svc_client.specs.declared.services.Unreached.TheVariants as unreached
use Rattle.cmd_svc.specs.declared.course.Course.{Course}
use Rattle.cmd_svc.specs.declared.look.ServiceLook.{ServiceLook}
use Rattle.cmd_svc.specs.declared.look.ServiceLook.TheVariants as look
use Rattle.svc_record.specs.declared.exit.Exit.{Exit}
use Rattle.cmd_report.specs.Metrics.{backoff_in, deaths_in, is_finishing, ready_in, signal_of, starts_in}
use Rattle.cmd_report.specs.Metrics.{status_of, unix_second}
use Rattle.svc_record.specs.declared.counts.Counts.{Counts}
use Rattle.cmd_report.specs.declared.found.FoundService.{FoundService}

-- These tokens were written after those that were there.
pub record Adds (old new : Written) (more : List Token) : Type 0 where
  pub before : new.before ≡ old.before
  pub tokens : new.tokens ≡ old.tokens ++ more

-- Words

abbrev pub side_name : (up : Bool) → List ℕ
side_name up = if up then codes "up" else codes "down"

abbrev pub want_name : Want → List ℕ
want_name want.Up = codes "up"
want_name want.Down = codes "down"
want_name want.Once = codes "once"

-- why nothing is known about a service
abbrev pub unreached_text : Unreached → List ℕ
unreached_text unreached.NotRunning = codes "supervise not running"
unreached_text unreached.Denied = codes "unable to open supervise/ok: Permission denied"
unreached_text unreached.Unanswered = codes "unable to open supervise/ok: no answer"

-- Members

unfoldable pub boolean_member : (name : List ℕ) → Bool → List Token
boolean_member name value = key name ∷ boolean value ∷ []

unfoldable pub string_member : (name text : List ℕ) → List Token
string_member name text = key name ∷ string text ∷ []

unfoldable pub number_member : (name : List ℕ) → ℕ → List Token
number_member name value = key name ∷ number (decimal value) ∷ []

unfoldable pub null_member : (name : List ℕ) → List Token
null_member name = key name ∷ null ∷ []

-- a number, if it is known
unfoldable pub known_member : (name : List ℕ) → Option ℕ → List Token
known_member name None = null_member name
known_member name (Some value) = number_member name value

-- a process number, if there is one
unfoldable pub pid_member : Status → List Token
pid_member status = if is_running status then number_member (codes "pid") status.pid else null_member (codes "pid")

-- the phase, which a record of 18 bytes does not have
unfoldable pub phase_member : Loaded → List Token
phase_member (Old status) = null_member (codes "phase")
phase_member (New full) = string_member (codes "phase") (phase_name full.phase)

unfoldable pub exiting_member : Loaded → List Token
exiting_member (Old status) = null_member (codes "exiting")
exiting_member (New full) = boolean_member (codes "exiting") full.exiting

unfoldable pub process_members : Status → (now : Tai64n) → List Token
process_members status now =
    boolean_member (codes "up") (is_running status)
    ++ pid_member status
    ++ number_member (codes "seconds") (seconds status now)

unfoldable pub asked_members : Status → (normally_up : Bool) → List Token
asked_members status normally_up =
    string_member (codes "want") (want_name status.want)
    ++ boolean_member (codes "paused") status.paused
    ++ string_member (codes "normally") (side_name normally_up)

unfoldable pub standing_members : Loaded → (normally_up : Bool) → (now : Tai64n) → List Token
standing_members loaded normally_up now =
    process_members (status_in loaded) now
    ++ phase_member loaded
    ++ asked_members (status_in loaded) normally_up
    ++ exiting_member loaded

-- a process that ended: its number, the status or the signal by which it ended if that is known, and the Unix time
unfoldable pub ended_members : Exit → List Token
ended_members exit =
    number_member (codes "pid") exit.pid
    ++ known_member (codes "status") (status_of exit.ending)
    ++ known_member (codes "signal") (signal_of exit.ending)
    ++ number_member (codes "at") (unix_second exit.label)

-- the last end, if it is known
unfoldable pub last_member : Option Exit → List Token
last_member None = null_member (codes "last")
last_member (Some exit) = key (codes "last") ∷ begin_object ∷ ended_members exit ++ end_object ∷ []

-- when its process said that it is ready, in Unix time, if it did; whether its `finish` runs; and until when its next
-- start waits, if it does
unfoldable pub course_members : Course → List Token
course_members course =
    known_member (codes "ready") (ready_in course)
    ++ boolean_member (codes "finishing") (is_finishing course)
    ++ known_member (codes "backoff") (backoff_in course)

-- since when a service is in its state, in Unix time; its counts; and its last end
unfoldable pub past_members : Status → Option Counts → Option Exit → List Token
past_members status counts last =
    number_member (codes "since") (unix_second status.label)
    ++ known_member (codes "starts") (starts_in counts)
    ++ known_member (codes "deaths") (deaths_in counts)
    ++ last_member last

-- A service that is not supervised counts as not up.
unfoldable pub unreached_members : Unreached → List Token
unreached_members unreached.NotRunning =
    boolean_member (codes "up") false ++ string_member (codes "error") (unreached_text unreached.NotRunning)
unreached_members other = string_member (codes "error") (unreached_text other)

-- the members after the path
abbrev pub look_members : ServiceLook → Option Counts → Option Exit → List Token
look_members (look.Unreached why) counts last = unreached_members why
look_members look.Unread counts last = string_member (codes "error") (codes "unable to read status")
look_members (look.Bad cause) counts last =
    string_member (codes "error") (codes "bad status record: " ++ fault_name cause)
look_members (look.Standing loaded normally_up now course) counts last =
    standing_members loaded normally_up now
    ++ course_members course
    ++ past_members (status_in loaded) counts last

-- Lines

abbrev pub found_tokens : FoundService → List Token
found_tokens found =
    begin_object ∷ [] ++ string_member (codes "path") found.folder.now
    ++ look_members found.look found.counts found.last ++ end_object ∷ []

-- the line about what was found about a service, without a newline
abbrev pub json_line : FoundService → List ℕ
json_line found = print (found_tokens found)
