-- What is said about a service: sentences, each by a rule over its status record, its trace and the clock.
use Rattle.std.specs.Prelude.{ℕ, ◌/◌, ◌%◌, nat_le, ◌==◌, ◌&&◌, not, Bool, false, if◌then◌else◌, List, [], ◌∷◌}
use Rattle.std.specs.Prelude.{◌++◌, codes}
use Rattle.std.specs.Prelude.{decimal, Option, Some, None}
use Rattle.tai_status.specs.Label.{Tai64n, nanoseconds}
use Rattle.tai_status.specs.Record.{Status}
use Rattle.tai_status.specs.Loading.{status_in}
use Rattle.tai_status.specs.declared.loading.Loaded.{Loaded}
use Rattle.tai_status.specs.declared.loading.Loaded.TheVariants.{Old, New}
use Rattle.tai_status.specs.declared.phase.Phase.{Phase}
use Rattle.tai_status.specs.declared.phase.Phase.TheVariants as phase
use Rattle.tai_status.specs.declared.record.Want.{Want}
use Rattle.tai_status.specs.declared.record.Want.TheVariants as want
use Rattle.sup_core.specs.declared.asks.Sig.{Sig}
use Rattle.sup_core.specs.Rules.{signal_of}
use Rattle.sup_core.specs.Text.{byte_text, signal_name}
use Rattle.svc_record.specs.Exits.{signal_name as name_of_signal}
use Rattle.svc_record.specs.declared.ending.Ending.{Ending}
use Rattle.svc_record.specs.declared.ending.Ending.TheVariants.{Status as OfStatus, Signal}
use Rattle.cmd_svc.specs.Line.{is_running, seconds, note, normal_notes}
use Rattle.cmd_svc.specs.declared.course.Course.{Course}
use Rattle.cmd_why.specs.declared.facts.EndedProcess.{EndedProcess}
use Rattle.cmd_why.specs.declared.facts.Facts.{Facts}
use Rattle.cmd_why.specs.declared.last_ends.LastEnd.{LastEnd}
use Rattle.cmd_why.specs.declared.last_ends.LastEnd.TheVariants.{Traced, Recorded}
use Rattle.cmd_why.specs.Courses.{course_sentence}
use Rattle.cmd_why.specs.LastEnd.{time_of_end}
use Rattle.svc_record.specs.declared.exit.Exit.{Exit}

-- The state: the record and the clock

-- since when, and for how many whole seconds
unfoldable pub since_text : (time : List ℕ) → Status → (now : Tai64n) → List ℕ
since_text time status now = codes " since " ++ time ++ codes " (" ++ decimal (seconds status now) ++ codes " s)"

unfoldable pub process_text : Status → List ℕ
process_text status = if is_running status then codes ", process " ++ decimal status.pid else []

unfoldable pub side_text : Status → List ℕ
side_text status = if is_running status then codes "up" else codes "down"

-- the phase of supervise, in words
abbrev pub phase_words : Phase → List ℕ
phase_words phase.Starting = codes ", being started"
phase_words phase.Settling = codes ", settling after its start"
phase_words phase.Resting = codes ", resting after a failed start"
phase_words other = []

-- the words that say that supervise ends
abbrev pub end_words : Phase → List ℕ
end_words phase.Gone = codes ", and supervise is gone"
end_words other = codes ", and supervise is to end"

unfoldable pub phase_text : Loaded → List ℕ
phase_text (Old status) = []
phase_text (New full) = phase_words full.phase

unfoldable pub end_text : Loaded → List ℕ
end_text (Old status) = []
end_text (New full) = note full.exiting (end_words full.phase)

-- what is wanted, in words, if that is not the present state
unfoldable pub want_words : (running : Bool) → Want → List ℕ
want_words running want.Up = note (not running) (codes ", wanted up")
want_words running want.Down = note running (codes ", wanted down")
want_words running want.Once = note running (codes ", wanted once")

-- whether it is up, since when, and with which process
unfoldable pub standing_text : Status → (time : List ℕ) → (now : Tai64n) → List ℕ
standing_text status time now =
    codes " is " ++ side_text status ++ since_text time status now ++ process_text status

-- what is not as it should be
unfoldable pub notes_text : Status → (normally_up : Bool) → List ℕ
notes_text status normally_up =
    note status.paused (codes ", paused") ++ want_words (is_running status) status.want ++ normal_notes status normally_up

-- the first sentence, after the name of the folder
abbrev pub state_text : Loaded → (normally_up : Bool) → (time : List ℕ) → (now : Tai64n) → List ℕ
state_text loaded normally_up time now =
    standing_text (status_in loaded) time now ++ phase_text loaded ++ notes_text (status_in loaded) normally_up
    ++ end_text loaded ++ codes "."

-- What was before: the last end, and the trace, if it leads to that record

-- a signal, and the control byte that sends it
abbrev pub sent_by : Option Sig → (byte : ℕ) → List ℕ
sent_by None byte = []
sent_by (Some sig) byte = signal_name sig ++ codes " (" ++ byte_text byte ++ codes ")"

-- the first signal of a control byte that has one, and the byte
unfoldable pub signal_words : (byte : ℕ) → List ℕ
signal_words byte = sent_by (signal_of byte) byte

-- the same, at the end of a sentence
unfoldable pub signal_end : (byte : ℕ) → List ℕ
signal_end byte = signal_words byte ++ codes "."

-- how a process ended: after its last signal; or without a control byte after its start, if that start is known
unfoldable pub how_words : Option ℕ → (unasked : Bool) → List ℕ
how_words (Some byte) unasked = codes " after " ++ signal_words byte
how_words None unasked = note unasked (codes " without a control byte")

-- tenths of a second as seconds
unfoldable pub tenths_text : ℕ → List ℕ
tenths_text tenths = decimal (tenths / 10) ++ codes "." ++ decimal (tenths % 10)

-- a signal: its name, or its number if it has no name
abbrev pub named : (name : List ℕ) (number : ℕ) → List ℕ
named [] number = codes "signal " ++ decimal number
named (byte ∷ name) number = codes "SIG" ++ byte ∷ name

unfoldable pub signal_text : (number : ℕ) → List ℕ
signal_text number = named (name_of_signal number) number

-- the exit status of a process, or the signal by which it ended, if that is known
unfoldable pub ending_words : Option Ending → List ℕ
ending_words (Some (OfStatus code)) = codes " with status " ++ decimal code
ending_words (Some (Signal number)) = codes " by " ++ signal_text number
ending_words other = []

-- which process ended, how long it ran, and how it ended
abbrev pub ended_words : EndedProcess → Option Ending → List ℕ
ended_words ended ending =
    decimal ended.pid ++ codes " ran " ++ tenths_text ended.tenths ++ codes " s and ended"
    ++ ending_words ending ++ how_words ended.sent ended.unasked ++ codes "."

-- the sentence about the last signal that was sent to the process since its start
abbrev pub sent_sentence : Option ℕ → List ℕ
sent_sentence (Some byte) = codes " It was sent " ++ signal_end byte
sent_sentence None = []

-- which process ended, and how, if only the file `exit` says so
abbrev pub exit_words : Exit → List ℕ
exit_words exit = decimal exit.pid ++ codes " ended" ++ ending_words (Some exit.ending) ++ codes "."

abbrev pub last_words : LastEnd → List ℕ
last_words (Traced ended ending) = ended_words ended ending
last_words (Recorded exit) = exit_words exit

-- whether an end was before the running process began
abbrev pub is_before : Status → LastEnd → Bool
is_before status end = is_running status && nat_le (nanoseconds (time_of_end end)) (nanoseconds status.label)

abbrev pub end_opening : (before : Bool) → List ℕ
end_opening before = if before then codes " Before it process " else codes " Process "

-- the sentence about the last end
abbrev pub end_sentence : Status → Option LastEnd → List ℕ
end_sentence status (Some end) = end_opening (is_before status end) ++ last_words end
end_sentence status None = []

-- why a service is down: the last of u, d and o after the start of the process that ended
abbrev pub wanted_sentence : Option ℕ → List ℕ
wanted_sentence (Some byte) =
    if byte == 100 then codes " It was brought down (d)."
    else if byte == 111 then codes " It was to run once (o)."
    else []
wanted_sentence None = []

-- the control byte that says why, if the trace has the last end
abbrev pub wanted_at : Option LastEnd → Option ℕ
wanted_at (Some (Traced ended ending)) = ended.wanted
wanted_at other = None

-- what led to the last end or came after it: the signal that was sent to the running process, or why the service is
-- down
abbrev pub cause_sentence : (running : Bool) → Facts → Option LastEnd → List ℕ
cause_sentence running facts last = if running then sent_sentence facts.sent else wanted_sentence (wanted_at last)

-- what is said about starts that made no process
abbrev pub unstarted_text : (running : Bool) → Facts → List ℕ
unstarted_text running facts =
    note (not running && facts.failed) (codes " Its last start failed.")
    ++ note (not running && facts.unrun) (codes " It has not run since supervise began.")

-- the past, from a trace that leads to the record
abbrev pub led_sentences : Status → Facts → Option LastEnd → List ℕ
led_sentences status facts last =
    cause_sentence (is_running status) facts last ++ end_sentence status last
    ++ unstarted_text (is_running status) facts

-- the past: the last end, and what a trace that leads to the record says
abbrev pub past_sentences : Status → Option Facts → Option LastEnd → List ℕ
past_sentences status None last = end_sentence status last
past_sentences status (Some facts) last =
    if facts.leads then led_sentences status facts last else end_sentence status last

-- Starts. Five or more within 60 seconds that nobody asked for count as flapping. A trace that does not lead to the
-- record, or does not reach back 60 seconds, only knows a least number.

-- whether the trace has all starts of the last 60 seconds
abbrev pub has_all : Facts → Bool
has_all facts = facts.leads && facts.reaches

abbrev pub count_words : (starts : ℕ) → List ℕ
count_words starts =
    decimal starts ++ (if starts == 1 then codes " start" else codes " starts") ++ codes " in the last 60 s."

abbrev pub starts_opening : (unasked : ℕ) → (all : Bool) → List ℕ
starts_opening unasked all =
    if nat_le 5 unasked then (if all then codes " It is flapping: " else codes " It is flapping: at least ")
    else if all then codes " "
    else codes " At least "

abbrev pub count_sentence : (starts unasked : ℕ) → (all : Bool) → List ℕ
count_sentence starts unasked all =
    if starts == 0 then [] else starts_opening unasked all ++ count_words starts

-- what a trace says about starts, if there is one
abbrev pub starts_sentence : Option Facts → List ℕ
starts_sentence None = []
starts_sentence (Some facts) = count_sentence facts.starts facts.unasked (has_all facts)

-- The line

-- the line about a service in this folder, without a newline
abbrev pub why_line : (folder : List ℕ) → Loaded → (normally_up : Bool) → Option Facts → Option LastEnd
    → Course → (course_time : List ℕ) → (time : List ℕ) → (now : Tai64n) → List ℕ
why_line folder loaded normally_up facts last course course_time time now =
    folder ++ state_text loaded normally_up time now ++ past_sentences (status_in loaded) facts last
    ++ course_sentence course course_time ++ starts_sentence facts
