-- How a trace has grown since its text was last kept.
use Rattle.std.specs.Prelude.{◌≡◌, ℕ, List, Option, Some, length, ⊤}
use Rattle.sup_core.specs.declared.event.Event.{Event}
use Rattle.sup_trace.specs.Content.{Content}
use Rattle.sup_trace.specs.Text.{trace_text}
use Rattle.sup_trace.specs.Trace.{content_by as content_of_trace, trace_after}
use Rattle.svc_station.specs.declared.rule.Origin.{Origin}
use Rattle.svc_host.specs.declared.growth.Growth.{Growth}
use Rattle.svc_host.specs.declared.growth.Growth.TheVariants as growth

-- the trace of a station after these events
abbrev pub trace_of : Origin → List Event → Content
trace_of station known = content_of_trace (trace_after station.opening station.room known)

-- This is the text of a trace that counts this many events, if there is memory for it.
abbrev pub IsText : Content → ℕ → Growth → Type 0
IsText trace count growth.None = ⊥
IsText trace count (growth.By number text) = (number ≡ count) × (text.items ≡ trace_text trace)
IsText trace count growth.Refused = ⊤

-- How the trace after these events differs from the one last kept, which counted this many events. There are no more,
-- or these are its text and its count now, or there is no memory.
abbrev pub Shows : Origin → List Event → Option ℕ → Growth → Type 0
Shows station known last growth.None = last ≡ Some (length known)
Shows station known last (growth.By count text) =
    (count ≡ length known) × (text.items ≡ trace_text (trace_of station known))
Shows station known last growth.Refused = ⊤
