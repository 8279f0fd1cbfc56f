-- The picture of the last hour of a service, from its trace: rectangles on an axis of 3,600 units, one for each second.
-- The axis is the same for all services. Its right end is now. Moments are in nanoseconds since the beginning of
-- labels.
use Rattle.std.specs.Prelude.{ℕ, ◌+◌, ◌-◌, ◌/◌, ◌^◌, min, nat_le, nat_lt, ◌==◌, ◌&&◌, ◌||◌, not, Bool, true, false}
use Rattle.std.specs.Prelude.{if◌then◌else◌, List, [], ◌∷◌, ◌++◌, codes, decimal, flat_map}
use Rattle.tai_status.specs.Label.{Tai64n, nanoseconds}
use Rattle.sup_core.specs.declared.event.Event.{Event}
use Rattle.sup_core.specs.declared.event.Event.TheVariants.{Byte, Started, Death}
use Rattle.sup_trace.specs.Content.{Content}
use Rattle.cmd_page.specs.declared.picture.TheConstants.{HOUR}
use Rattle.cmd_why.specs.Entries.{is_signal}
use Rattle.cmd_why.specs.Facts.{is_recent, reaches_back}
use Rattle.cmd_why.specs.Timeline.{left_end, stretches_of}
use Rattle.cmd_why.specs.declared.timeline.ShownState.{ShownState}
use Rattle.cmd_why.specs.declared.timeline.ShownState.TheVariants as shown
use Rattle.cmd_why.specs.declared.timeline.Stretch.{Stretch}

-- Places

-- The place of a moment on the axis, in whole seconds. What is more than an hour ago is at the left end.
abbrev pub place : (now moment : ℕ) → ℕ
place now moment = 3600 - min 3600 ((now - moment) / 10 ^ 9)

-- a rectangle of a class, from one place to another
unfoldable pub extent : (from to : ℕ) → List ℕ
extent from to = codes "\" x=\"" ++ decimal from ++ codes "\" width=\"" ++ decimal (to - from)

unfoldable pub rectangle : (class : List ℕ) (from to : ℕ) → List ℕ
rectangle class from to = codes "<rect class=\"" ++ class ++ extent from to ++ codes "\" height=\"1\"/>"

-- States

-- the class of a stretch
abbrev pub class_of : ShownState → List ℕ
class_of shown.Up = codes "up"
class_of shown.Paused = codes "warn"
class_of shown.Attempt = codes "warn"
class_of shown.Down = codes "down"
class_of shown.Unknown = codes "dark"

-- the rectangle of a stretch, if it has some width on the axis
abbrev pub stretch_text : (now : ℕ) → Stretch → List ℕ
stretch_text now s =
    if nat_lt (place now s.from) (place now s.to)
    then rectangle (class_of s.shown) (place now s.from) (place now s.to)
    else []

-- Deaths that nobody asked for

-- Whether the end of a process was asked for, after one more event: since its start, a control byte came that sends a
-- signal.
abbrev pub is_asked : (asked : Bool) → Event → Bool
is_asked asked (Byte byte) = asked || is_signal byte
is_asked asked (Started pid label) = false
is_asked asked other = asked

-- the mark of a death at a place: the twelve seconds before it, if they are in the last hour
abbrev pub mark : (place : ℕ) → List ℕ
mark at = if at == 0 then [] else rectangle (codes "died") (at - 12) at

abbrev pub death_text : (now : ℕ) (asked : Bool) → Event → List ℕ
death_text now asked (Death label) = if asked then [] else mark (place now (nanoseconds label))
death_text now asked other = []

-- the marks of the deaths among these entries that nobody asked for
abbrev pub deaths : (now : ℕ) (asked : Bool) → List Event → List ℕ
deaths now asked [] = []
deaths now asked (event ∷ events) = death_text now asked event ++ deaths now (is_asked asked event) events

-- Whether there were events before the entries of a trace. Then a signal may have been sent to the process before them.
abbrev pub has_more : Content → Bool
has_more content = not (content.folded == 0)

-- The picture

-- the rectangles of a trace: its stretches, and over them the marks
unfoldable pub rectangles : (now : Tai64n) (leads : Bool) → Content → List ℕ
rectangles now leads content =
    flat_map (stretch_text (nanoseconds now))
    (stretches_of content leads (nanoseconds (left_end content now)) (nanoseconds now))
    ++ deaths (nanoseconds now) (has_more content) content.entries

unfoldable pub opening : List ℕ
opening = codes "<svg viewBox=\"0 0 3600 1\" preserveAspectRatio=\"none\" role=\"img\" aria-label=\"the last hour\">"

unfoldable pub picture : (now : Tai64n) (leads : Bool) → Content → List ℕ
picture now leads content = opening ++ rectangles now leads content ++ codes "</svg>"

-- Restarts

-- a start in the last hour, after another process
abbrev pub is_restart : (now : Tai64n) (ran : Bool) → Event → Bool
is_restart now ran (Started pid label) = ran && is_recent now HOUR label
is_restart now ran other = false

-- whether a process has run, after one more event
abbrev pub has_run : (ran : Bool) → Event → Bool
has_run ran (Started pid label) = true
has_run ran other = ran

-- how many of these entries are restarts in the last hour
abbrev pub restarts : (now : Tai64n) (ran : Bool) → List Event → ℕ
restarts now ran [] = 0
restarts now ran (event ∷ events) =
    (if is_restart now ran event then 1 else 0) + restarts now (has_run ran event) events

-- whether a process ran before the entries of a trace
abbrev pub ran_before : Content → Bool
ran_before content = nat_le 1 content.base.status.pid || has_more content

-- the restarts in the last hour; if the trace may not have all of them, the least number
unfoldable pub restarts_text : (now : Tai64n) (leads : Bool) → Content → List ℕ
restarts_text now leads content =
    (if leads && reaches_back content HOUR now then [] else codes "at least ")
    ++ decimal (restarts now (ran_before content) content.entries)
