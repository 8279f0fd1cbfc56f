-- The last end of a service's process, from its trace and from its file `exit`: the later of the two.
use Rattle.std.specs.Prelude.{nat_lt, ◌==◌, ◌&&◌, Bool, if◌then◌else◌, Option, Some, None}
use Rattle.std.specs.Prelude.{option_map}
use Rattle.tai_status.specs.Label.{Tai64n, nanoseconds}
use Rattle.svc_record.specs.declared.ending.Ending.{Ending}
use Rattle.svc_record.specs.declared.exit.Exit.{Exit}
use Rattle.cmd_why.specs.Facts.{same_label}
use Rattle.cmd_why.specs.declared.facts.EndedProcess.{EndedProcess}
use Rattle.cmd_why.specs.declared.facts.Facts.{Facts}
use Rattle.cmd_why.specs.declared.last_ends.LastEnd.{LastEnd}
use Rattle.cmd_why.specs.declared.last_ends.LastEnd.TheVariants.{Traced, Recorded}

-- The last end

-- whether an exit is about the process, and the time, of an end in the trace
abbrev pub is_of_end : Exit → EndedProcess → Bool
is_of_end exit ended = (exit.pid == ended.pid) && same_label exit.label ended.label

-- how a process ended whose end is in the trace, if the exit is about it
abbrev pub how : Exit → EndedProcess → Option Ending
how exit ended = if is_of_end exit ended then Some exit.ending else None

-- whether an exit is later than an end in the trace
abbrev pub is_later : Exit → EndedProcess → Bool
is_later exit ended = nat_lt (nanoseconds ended.label) (nanoseconds exit.label)

-- the later of two ends, or the one in the trace if both are at the same time
abbrev pub later : Exit → Option EndedProcess → LastEnd
later exit None = Recorded exit
later exit (Some ended) = if is_later exit ended then Recorded exit else Traced ended (how exit ended)

-- the last end in a trace
abbrev pub ended_in : Option Facts → Option EndedProcess
ended_in (Some facts) = facts.ended
ended_in None = None

-- the same, if the trace leads to the record
abbrev pub traced_end : Option Facts → Option EndedProcess
traced_end (Some facts) = if facts.leads then facts.ended else None
traced_end None = None

-- The last end is the later of the one in the trace and the one in the file `exit`. If there is no line of `exit`, it
-- is the one in the trace, if the trace leads to the record.
abbrev pub last_end : Option Facts → Option Exit → Option LastEnd
last_end facts (Some exit) = Some (later exit (ended_in facts))
last_end facts None = option_map (λ ended. Traced ended None) (traced_end facts)

-- when that was
abbrev pub time_of_end : LastEnd → Tai64n
time_of_end (Traced ended ending) = ended.label
time_of_end (Recorded exit) = exit.label
