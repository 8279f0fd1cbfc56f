-- The page about services: its head, one row for each service, and its end.
use Rattle.std.specs.Prelude.{ℕ, ◌-◌, ◌/◌, nat_lt, not, Bool, false, if◌then◌else◌, List, [], ◌∷◌, ◌++◌, codes}
use Rattle.std.specs.Prelude.{decimal, flat_map, Option, Some, None}
use Rattle.tai_status.specs.Label.{Tai64n}
use Rattle.tai_status.specs.Record.{Status}
use Rattle.tai_status.specs.Loading.{status_in}
use Rattle.sup_trace.specs.Content.{Content}
use Rattle.svc_record.specs.declared.ending.Ending.{Ending}
use Rattle.svc_record.specs.declared.ending.Ending.TheVariants as ending
use Rattle.svc_record.specs.declared.exit.Exit.{Exit}
use Rattle.cmd_report.specs.Json.{want_name}
use Rattle.cmd_svc.specs.Line.{is_running, wants_up}
use Rattle.svc_client.specs.declared.services.Unreached.{Unreached}
use Rattle.svc_client.specs.declared.services.Unreached.TheVariants as unreached
use Rattle.cmd_svc.specs.declared.course.Course.{Course}
use Rattle.cmd_svc.specs.declared.course.Course.TheVariants.{BackingOff, Finishing, Plain, Ready}
use Rattle.cmd_svc.specs.declared.look.ServiceLook.{ServiceLook}
use Rattle.cmd_svc.specs.declared.look.ServiceLook.TheVariants as look
use Rattle.cmd_why.specs.Facts.{leads_to}
use Rattle.cmd_why.specs.Sentences.{signal_text}
use Rattle.cmd_report.specs.declared.found.FoundService.{FoundService}
use Rattle.cmd_page.specs.Escape.{escaped}
use Rattle.cmd_page.specs.Picture.{picture, restarts_text}

-- What is in the row of a service: what a look found, its trace if there is a readable one, and the local time of its
-- last change of process. If that is not known, there is no such time.
pub record Row : Type 0 where
  pub found : FoundService
  pub trace : Option Content
  pub since : List ℕ

abbrev pub row : (found : FoundService) (trace : Option Content) (since : List ℕ) → Row
row found trace since = record { found = found; trace = trace; since = since }

-- Cells

unfoldable pub cell : (class content : List ℕ) → List ℕ
cell class content = codes "<td class=\"" ++ class ++ codes "\">" ++ content ++ codes "</td>"

-- the status that a look found
abbrev pub status_of : ServiceLook → Option Status
status_of (look.Standing loaded normally_up now course) = Some (status_in loaded)
status_of other = None

-- the state of a service in a word or two
abbrev pub process_word : Status → (word : List ℕ) → List ℕ
process_word status word =
    if not (is_running status) then codes "down"
    else if status.paused then codes "paused"
    else word

abbrev pub side_word : Status → Course → List ℕ
side_word status Plain = process_word status (codes "up")
side_word status (Ready label) = process_word status (codes "ready")
side_word status Finishing = codes "finishing"
side_word status (BackingOff until) = codes "backoff"

abbrev pub unreached_word : Unreached → List ℕ
unreached_word unreached.NotRunning = codes "not supervised"
unreached_word unreached.Denied = codes "no permission"
unreached_word unreached.Unanswered = codes "no answer"

abbrev pub state_word : ServiceLook → List ℕ
state_word (look.Unreached why) = unreached_word why
state_word look.Unread = codes "status unreadable"
state_word (look.Bad cause) = codes "status damaged"
state_word (look.Standing loaded normally_up now course) = side_word (status_in loaded) course

-- The class of its cell: it runs; it does not, and is not to; or it is not as it should be, or that is not known.
abbrev pub state_class : Option Status → List ℕ
state_class None = codes "warn"
state_class (Some status) =
    if is_running status then (if status.paused then codes "warn" else codes "up")
    else if wants_up status.want then codes "warn"
    else codes "down"

-- The same for a look. It is not as it should be if its next start waits.
abbrev pub look_class : ServiceLook → List ℕ
look_class (look.Standing loaded normally_up now (BackingOff until)) = codes "warn"
look_class look = state_class (status_of look)

abbrev pub wanted_text : Option Status → List ℕ
wanted_text None = []
wanted_text (Some status) = want_name status.want

abbrev pub process_text : Option Status → List ℕ
process_text None = []
process_text (Some status) = if is_running status then decimal status.pid else []

-- whether a trace leads to the process that the status names, if there is a status
abbrev pub leads : Option Status → Content → Bool
leads None content = false
leads (Some status) content = leads_to content status

abbrev pub restarts_in : (now : Tai64n) → Option Status → Option Content → List ℕ
restarts_in now status None = []
restarts_in now status (Some content) = restarts_text now (leads status content) content

abbrev pub picture_in : (now : Tai64n) → Option Status → Option Content → List ℕ
picture_in now status None = []
picture_in now status (Some content) = picture now (leads status content) content

-- how a process ended
unfoldable pub ending_text : Ending → List ℕ
ending_text (ending.Status code) = codes "status " ++ decimal code
ending_text (ending.Signal number) = signal_text number
ending_text ending.Unknown = codes "unknown"

-- a time in one unit, rounded down
unfoldable pub span_text : (seconds : ℕ) → List ℕ
span_text seconds =
    if nat_lt seconds 120 then decimal seconds ++ codes " s"
    else if nat_lt seconds 7200 then decimal (seconds / 60) ++ codes " min"
    else if nat_lt seconds 172800 then decimal (seconds / 3600) ++ codes " h"
    else decimal (seconds / 86400) ++ codes " d"

-- how its last process ended, and how long ago
abbrev pub last_text : (now : Tai64n) → Option Exit → List ℕ
last_text now None = []
last_text now (Some exit) =
    ending_text exit.ending ++ codes ", " ++ span_text (now.sec - exit.label.sec) ++ codes " ago"

-- Rows

-- the cells after the name of a service
unfoldable pub cells_text : (now : Tai64n) → Row → List ℕ
cells_text now row =
    cell (look_class row.found.look) (state_word row.found.look)
    ++ cell (codes "more") (escaped row.since)
    ++ cell (codes "more") (process_text (status_of row.found.look))
    ++ cell (codes "more") (wanted_text (status_of row.found.look))
    ++ cell (codes "more") (restarts_in now (status_of row.found.look) row.trace)
    ++ cell (codes "more") (last_text now row.found.last)
    ++ cell (codes "hour") (picture_in now (status_of row.found.look) row.trace)

unfoldable pub row_begin : List ℕ
row_begin = codes "<tr><th scope=\"row\">"

-- the name of a service, in the first cell of its row
unfoldable pub name_text : (folder : List ℕ) → List ℕ
name_text folder = row_begin ++ escaped folder ++ codes "</th>"

unfoldable pub row_end : List ℕ
row_end = codes "</tr>" ++ 10 ∷ []

-- the row of a service
unfoldable pub row_text : (now : Tai64n) → Row → List ℕ
row_text now row = name_text row.found.folder.now ++ cells_text now row ++ row_end

-- The page

-- What is before the time of the page: the page loads nothing, has no script, and is fetched again every ten seconds.
unfoldable pub head_text : List ℕ
head_text =
    codes "<!DOCTYPE html>" ++ 10 ∷
    codes "<html lang=\"en\"><head><meta charset=\"utf-8\"><title>Services</title>" ++ 10 ∷
    codes "<meta name=\"viewport\" content=\"width=device-width, initial-scale=1\">" ++ 10 ∷
    codes "<meta http-equiv=\"refresh\" content=\"10\">" ++ 10 ∷
    codes "<meta http-equiv=\"Content-Security-Policy\"" ++ 10 ∷
    codes "content=\"default-src 'none'; style-src 'unsafe-inline'\">" ++ 10 ∷
    codes "<style>" ++ 10 ∷
    codes ":root{color-scheme:light dark;--up:#2e7d32;--warn:#9a6700;--died:#c62828}" ++ 10 ∷
    codes "@media(prefers-color-scheme:dark){:root{--up:#66bb6a;--warn:#d29922;--died:#ef5350}}" ++ 10 ∷
    codes "body{font:15px/1.4 system-ui,sans-serif;margin:1rem}" ++ 10 ∷
    codes "table{border-collapse:collapse;width:100%}" ++ 10 ∷
    codes "th,td{text-align:left;padding:.3rem .5rem;border-top:1px solid #8884}" ++ 10 ∷
    codes "tbody th{min-width:5rem;overflow-wrap:anywhere}" ++ 10 ∷
    codes "td.more{white-space:nowrap}td.up{color:var(--up)}td.warn{color:var(--warn)}" ++ 10 ∷
    codes "svg{display:block;width:20rem;height:1rem;background:#8882}" ++ 10 ∷
    codes "rect.up{fill:var(--up)}rect.down{fill:#8888}rect.warn{fill:var(--warn)}" ++ 10 ∷
    codes "rect.dark{fill:none}rect.died{fill:var(--died)}" ++ 10 ∷
    codes "@media(max-width:60rem){.more{display:none}svg{width:8rem}}" ++ 10 ∷
    codes "</style></head><body>" ++ 10 ∷
    codes "<p>Services at "

-- what is between that time and the rows
unfoldable pub heading_text : List ℕ
heading_text =
    codes ". The last hour of each: green is up, gray is down, yellow is paused or about a start." ++ 10 ∷
    codes "Red is the end of a process that nobody asked to end.</p>" ++ 10 ∷
    codes "<table><thead><tr><th>Service</th><th>State</th><th class=\"more\">Since</th>" ++ 10 ∷
    codes "<th class=\"more\">Process</th>" ++ 10 ∷
    codes "<th class=\"more\">Wanted</th><th class=\"more\">Restarts in the last hour</th>" ++ 10 ∷
    codes "<th class=\"more\">Last end</th>" ++ 10 ∷
    codes "<th>Last hour</th></tr></thead><tbody>" ++ 10 ∷
    []

unfoldable pub end_text : List ℕ
end_text = codes "</tbody></table></body></html>" ++ 10 ∷ []

-- the page of a moment, which has this local time
unfoldable pub page_text : (time : List ℕ) (now : Tai64n) → List Row → List ℕ
page_text time now rows =
    head_text ++ escaped time ++ heading_text ++ flat_map (row_text now) rows ++ end_text
