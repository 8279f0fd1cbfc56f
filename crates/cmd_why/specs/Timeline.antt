-- The picture of a trace: the states over time, in 80 columns. Moments are in nanoseconds since the beginning of
-- labels.
use Rattle.std.specs.Prelude.{ℕ, ◌+◌, ◌-◌, ◌*◌, ◌/◌, nat_lt, ◌&&◌, max, min, Bool, true, false, if◌then◌else◌, List}
use Rattle.std.specs.Prelude.{[], ◌∷◌, ◌++◌, length, replicate, codes, Option, Some, None}
use Rattle.std.specs.List.{flat_map, list_any, range_with_len}
use Rattle.tai_status.specs.Label.{Tai64n, nanoseconds}
use Rattle.tai_status.specs.Record.{Status}
use Rattle.tai_status.specs.declared.phase.Phase.{Phase}
use Rattle.tai_status.specs.declared.phase.Phase.TheVariants as phase
use Rattle.sup_core.specs.State.{State}
use Rattle.sup_core.specs.History.{Opened, state_of}
use Rattle.sup_core.specs.Rules.{next}
use Rattle.sup_core.specs.declared.event.Event.{Event}
use Rattle.sup_core.specs.declared.event.Event.TheVariants.{Byte, Started, StartFailed, Death, Clock}
use Rattle.sup_trace.specs.Content.{Content}
use Rattle.cmd_svc.specs.Line.{is_running}
use Rattle.cmd_why.specs.declared.lines.Drawing.{Drawing}
use Rattle.cmd_why.specs.declared.lines.Drawing.TheVariants as drawing
use Rattle.cmd_why.specs.declared.timeline.ShownState.{ShownState}
use Rattle.cmd_why.specs.declared.timeline.ShownState.TheVariants as shown
use Rattle.cmd_why.specs.declared.timeline.Stretch.{Stretch}

-- Stretches: from one entry that has a label to the next

abbrev pub stretch : (from to : ℕ) → ShownState → Stretch
stretch from to what = record { from = from; to = to; shown = what }

-- How a machine is shown: paused; up; an attempt, if it settles after a start or rests after a failed one; and
-- otherwise down.
abbrev pub shown_in : Phase → ShownState
shown_in phase.Up = shown.Up
shown_in phase.Settling = shown.Attempt
shown_in phase.Resting = shown.Attempt
shown_in other = shown.Down

abbrev pub shown_of : State → ShownState
shown_of state = if state.status.paused then shown.Paused else shown_in state.phase

-- How the machine before the entries is shown, from its label to the first label of an entry. During all of that time
-- there was a process, or none, and nothing more is known.
abbrev pub shown_before : Status → ShownState
shown_before status =
    if status.paused then shown.Paused else if is_running status then shown.Up else shown.Down

-- the machine after an entry
abbrev pub stepped : State → Event → State
stepped state event = state_of (next (Opened state) event)

-- the label of an entry; a control byte has none
abbrev pub label_in : Event → Option Tai64n
label_in (Byte byte) = None
label_in (Started pid label) = Some label
label_in (StartFailed label) = Some label
label_in (Death label) = Some label
label_in (Clock label) = Some label

-- When an entry with this label counts, after the last stretch so far: not before that stretch, because a clock may be
-- set back, and not after the clock reading.
abbrev pub moment : (now : ℕ) → Stretch → Tai64n → ℕ
moment now last label = min now (max last.from (nanoseconds label))

-- the stretch that ends at an entry, if the entry has a label
abbrev pub ended_with : (now : ℕ) → Stretch → Option Tai64n → List Stretch
ended_with now last None = []
ended_with now last (Some label) = stretch last.from (moment now last label) last.shown ∷ []

-- The stretch after an entry that leads to this machine. A control byte came at some time in the stretch that it is in.
-- If it pauses the process, all of that stretch is shown as paused.
abbrev pub behind : (now : ℕ) → Stretch → Option Tai64n → State → Stretch
behind now last None state = stretch last.from last.to (if state.status.paused then shown.Paused else last.shown)
behind now last (Some label) state = stretch (moment now last label) last.to (shown_of state)

-- The last stretch of all, up to now. The state in it is known only if the trace leads to the record.
abbrev pub tail : (leads : Bool) → Stretch → Stretch
tail leads last = stretch last.from last.to (if leads then last.shown else shown.Unknown)

-- the stretches from the last one so far on, which would last to the end of the picture, with those that these entries
-- add
abbrev pub stretches : (now : ℕ) → (leads : Bool) → State → (last : Stretch) → List Event → List Stretch
stretches now leads state last [] = tail leads last ∷ []
stretches now leads state last (event ∷ events) =
    ended_with now last (label_in event)
    ++ stretches now leads (stepped state event) (behind now last (label_in event) (stepped state event)) events

-- Columns

abbrev pub columns : ℕ
columns = 80

-- how many moments wide the picture is, from its left end up to and including now; at least one for each column
abbrev pub width : (from now : ℕ) → ℕ
width from now = max columns (now + 1 - from)

-- when a column begins, which is when the one before it ends
abbrev pub edge : (from width column : ℕ) → ℕ
edge from width column = from + column * width / columns

-- whether a stretch overlaps the time from one moment to another
abbrev pub has_part : (from to : ℕ) → Stretch → Bool
has_part from to s = nat_lt s.from to && nat_lt from s.to

abbrev pub same : ShownState → ShownState → Bool
same shown.Up shown.Up = true
same shown.Paused shown.Paused = true
same shown.Attempt shown.Attempt = true
same shown.Down shown.Down = true
same shown.Unknown shown.Unknown = true
same other more = false

-- whether a stretch that is shown this way overlaps that time
abbrev pub stands : (from to : ℕ) → ShownState → List Stretch → Bool
stands from to what drawn = list_any (λ s. has_part from to s && same s.shown what) drawn

-- the one of these that holds, if exactly one does
abbrev pub alone : (up paused attempt down unknown : Bool) → Option ShownState
alone true false false false false = Some shown.Up
alone false true false false false = Some shown.Paused
alone false false true false false = Some shown.Attempt
alone false false false true false = Some shown.Down
alone false false false false true = Some shown.Unknown
alone up paused attempt down unknown = None

-- what is shown throughout a time, or None if there is more than one
abbrev pub throughout : (from to : ℕ) → List Stretch → Option ShownState
throughout from to drawn =
    alone (stands from to shown.Up drawn) (stands from to shown.Paused drawn) (stands from to shown.Attempt drawn)
    (stands from to shown.Down drawn) (stands from to shown.Unknown drawn)

abbrev pub sign : Option ShownState → List ℕ
sign (Some shown.Up) = codes "#"
sign (Some shown.Paused) = codes "="
sign (Some shown.Attempt) = codes "*"
sign (Some shown.Down) = codes "."
sign (Some shown.Unknown) = codes "?"
sign None = codes "+"

-- a column: the sign for the state throughout its time
abbrev pub column_sign : (from width : ℕ) → List Stretch → (column : ℕ) → List ℕ
column_sign from width drawn column =
    sign (throughout (edge from width column) (edge from width (column + 1)) drawn)

-- the signs of all columns
unfoldable pub bar : (from width : ℕ) → List Stretch → List ℕ
bar from width drawn = flat_map (column_sign from width drawn) (range_with_len 0 columns)

-- Traces

-- when the picture begins: at the label of the machine before the entries, or at the clock reading if that is earlier
abbrev pub left_end : Content → (now : Tai64n) → Tai64n
left_end content now =
    if nat_lt (nanoseconds now) (nanoseconds content.base.status.label) then now else content.base.status.label

-- the whole picture as one stretch, as if there were no entries
abbrev pub before_entries : Content → (from now : ℕ) → Stretch
before_entries content from now = stretch from (from + width from now) (shown_before content.base.status)

abbrev pub stretches_of : Content → (leads : Bool) → (from now : ℕ) → List Stretch
stretches_of content leads from now = stretches now leads content.base (before_entries content from now) content.entries

-- the picture of a trace at a clock reading
abbrev pub bar_of : Content → (leads : Bool) → (now : Tai64n) → List ℕ
bar_of content leads now =
    bar (nanoseconds (left_end content now)) (width (nanoseconds (left_end content now)) (nanoseconds now))
    (stretches_of content leads (nanoseconds (left_end content now)) (nanoseconds now))

-- Lines

-- the line below the columns: when the picture begins, and that it ends now
unfoldable pub scale : (from : List ℕ) → List ℕ
scale from = from ++ replicate (columns - 3 - length from) 32 ++ codes "now"

-- the lines after the one about the state of a service
abbrev pub drawing_lines : Drawing → List ℕ
drawing_lines drawing.Unasked = []
drawing_lines drawing.Untraced = codes "No timeline: it has no trace that can be read." ++ 10 ∷ []
drawing_lines (drawing.Of picture) = picture.bar.bytes ++ (10 ∷ []) ++ scale picture.from.bytes ++ (10 ∷ [])
