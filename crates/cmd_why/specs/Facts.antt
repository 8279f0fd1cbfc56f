-- What a trace says about the processes of a service. Each fact comes from the last entry of a kind, or is a count of
-- entries.
use Rattle.std.specs.Prelude.{ℕ, ◌+◌, ◌-◌, ◌*◌, ◌/◌, ◌^◌, nat_le, nat_lt, ◌==◌, ◌&&◌, ◌||◌, not, Bool, true, false}
use Rattle.std.specs.Prelude.{if◌then◌else◌, List, [], ◌∷◌, Option, Some, None, count_by}
use Rattle.tai_status.specs.Label.{Tai64n, nanoseconds}
use Rattle.tai_status.specs.Record.{Status}
use Rattle.sup_core.specs.declared.event.Event.{Event}
use Rattle.sup_core.specs.declared.event.Event.TheVariants.{Byte, Started, StartFailed, Death}
use Rattle.sup_trace.specs.Content.{Content, replay_of}
use Rattle.cmd_why.specs.declared.entries.Kind.TheVariants.{Start, Death as OfDeath, Attempt, Control, Signal, Want}
use Rattle.cmd_why.specs.declared.facts.EndedProcess.{EndedProcess}
use Rattle.cmd_why.specs.declared.facts.Facts.{Facts}
use Rattle.cmd_why.specs.declared.facts.TheConstants.{MINUTE}
use Rattle.cmd_why.specs.Entries.{has, last_of, behind_last, before_last, byte_in}

-- Times

-- whole tenths of a second from one label to another, or 0 if the other is earlier
abbrev pub tenths_between : (from to : Tai64n) → ℕ
tenths_between from to = (nanoseconds to - nanoseconds from) / 10 ^ 8

-- the time that is so many seconds after a label, in nanoseconds; and whether two labels are the same
abbrev pub nanoseconds_after : Tai64n → (seconds : ℕ) → ℕ
nanoseconds_after label seconds = nanoseconds label + seconds * 10 ^ 9

abbrev pub same_label : Tai64n → Tai64n → Bool
same_label a b = (a.sec == b.sec) && (a.nano == b.nano)

-- Starts

-- whether a label is in so many seconds before the clock reading
abbrev pub is_recent : (now : Tai64n) (seconds : ℕ) (label : Tai64n) → Bool
is_recent now seconds label =
    nat_le (nanoseconds label) (nanoseconds now) && nat_le (nanoseconds now) (nanoseconds_after label seconds)

-- a start with a label in the 60 seconds before the clock reading
abbrev pub is_recent_start : (now : Tai64n) → Event → Bool
is_recent_start now (Started pid label) = is_recent now MINUTE label
is_recent_start now other = false

-- how many starts there were in the last 60 seconds, as far as entries say
abbrev pub recent_starts : (now : Tai64n) → List Event → ℕ
recent_starts now entries = count_by (is_recent_start now) entries

-- Whether an operator has asked for the next start, after one more event: a control byte came since the start before
-- it.
abbrev pub is_asked : (asked : Bool) → Event → Bool
is_asked asked (Byte byte) = true
is_asked asked (Started pid label) = false
is_asked asked other = asked

-- a start in the last 60 seconds that nobody asked for
abbrev pub is_unasked : (now : Tai64n) (asked : Bool) → Event → Bool
is_unasked now asked event = is_recent_start now event && not asked

-- How many starts in the last 60 seconds nobody asked for, as far as these entries say. `asked` says whether the first
-- one was asked for.
abbrev pub unasked_starts : (now : Tai64n) (asked : Bool) → List Event → ℕ
unasked_starts now asked [] = 0
unasked_starts now asked (event ∷ events) =
    (if is_unasked now asked event then 1 else 0) + unasked_starts now (is_asked asked event) events

-- Every start in so many seconds before the clock reading is among the entries: nothing was folded, or the last change
-- of process before the entries is older.
abbrev pub reaches_back : Content → (seconds : ℕ) (now : Tai64n) → Bool
reaches_back content seconds now =
    (content.folded == 0) || nat_lt (nanoseconds_after content.base.status.label seconds) (nanoseconds now)

-- Processes

-- the number of the process that this start made, or of the process before it if there is no start
abbrev pub pid_of_start : Status → Option Event → ℕ
pid_of_start before (Some (Started pid label)) = pid
pid_of_start before other = before.pid

-- when it was started
abbrev pub label_of_start : Status → Option Event → Tai64n
label_of_start before (Some (Started pid label)) = label
label_of_start before other = before.label

-- a process that ended at this label, from the status before some entries and from these entries, which led to its end
abbrev pub ended_at : Status → List Event → Tai64n → EndedProcess
ended_at before entries label = record {
  pid = pid_of_start before (last_of Start entries);
  label = label;
  tenths = tenths_between (label_of_start before (last_of Start entries)) label;
  wanted = byte_in (last_of Want (behind_last Start entries));
  sent = byte_in (last_of Signal (behind_last Start entries));
  unasked = has Start entries && not (has Control (behind_last Start entries));
}

-- the process that the last death ended
abbrev pub ended_by : Status → List Event → Option Event → Option EndedProcess
ended_by before entries (Some (Death label)) = Some (ended_at before (before_last OfDeath entries) label)
ended_by before entries other = None

-- the last process that ended; and whether the last start failed
abbrev pub last_ended : Content → Option EndedProcess
last_ended content = ended_by content.base.status content.entries (last_of OfDeath content.entries)

abbrev pub is_failure : Option Event → Bool
is_failure (Some (StartFailed label)) = true
is_failure other = false

-- The trace leads to the process that a record names, or to the same end of one.
abbrev pub leads_to : Content → Status → Bool
leads_to content status =
    same_label (replay_of content).status.label status.label && ((replay_of content).status.pid == status.pid)

-- no process is known since supervise began
abbrev pub has_not_run : Content → Bool
has_not_run content = (content.folded == 0) && (content.base.status.pid == 0) && not (has Start content.entries)

-- what a trace says in addition to the status record of a service, at a clock reading
abbrev pub facts_of : Content → Status → (now : Tai64n) → Facts
facts_of content status now = record {
  leads = leads_to content status;
  starts = recent_starts now content.entries;
  unasked = unasked_starts now false content.entries;
  reaches = reaches_back content MINUTE now;
  sent = byte_in (last_of Signal (behind_last Start content.entries));
  ended = last_ended content;
  failed = is_failure (last_of Attempt content.entries);
  unrun = has_not_run content;
}
