-- What a reader knows of a service that is gone.
use Rattle.std.proofs.Common.{◌≡◌, true, ap, sym, ◌∙◌}
use mathlib.Core.List.{IsPrefix}
use Rattle.tai_status.specs.declared.phase.Phase.TheVariants as phase
use Rattle.sup_core.specs.History.{Opened, phase_of, state_of}
use Rattle.sup_core.specs.Runs.{followed_by}
use Rattle.sup_trace.specs.Trace.{are_taken}
use Rattle.svc_station.specs.declared.note.Note.{Note}
use Rattle.svc_station.specs.declared.reader.Reader.{Reader}
use Rattle.svc_station.specs.Ends.{history_at, history_in, known_to, note_station, reader_opening, reader_station}
use Rattle.svc_station.specs.Ends.{told_by}
use Rattle.svc_station.proofs.Ended.{ended}

opening-same : (note : Note) (reader : Reader) → note_station note ≡ reader_station reader
    → note.opening ≡ reader_opening reader
opening-same note reader same = ap (λ v. v.opening) same

-- It knows exactly what the note says.
pub whole-known : (note : Note) (reader : Reader) → note_station note ≡ reader_station reader
    → phase_of (history_in note) ≡ phase.Gone → IsPrefix (told_by note) (known_to reader)
    → are_taken (Opened (reader_opening reader)) (known_to reader) ≡ true → known_to reader ≡ told_by note
whole-known note reader same gone starts taken =
    ended note.opening (told_by note) (known_to reader) starts
    (ap (λ m. are_taken (Opened m) (known_to reader)) (opening-same note reader same) ∙ taken) gone

-- Therefore it has the same history.
pub same-history : (note : Note) (reader : Reader) → note_station note ≡ reader_station reader
    → known_to reader ≡ told_by note → history_at reader ≡ history_in note
same-history note reader same known = λ i. followed_by (Opened (sym (opening-same note reader same) i)) (known i)

pub whole-history : (note : Note) (reader : Reader) → note_station note ≡ reader_station reader
    → known_to reader ≡ told_by note → state_of (history_at reader) ≡ state_of (history_in note)
whole-history note reader same known = ap state_of (same-history note reader same known)
