-- The thread of a part: it runs, or it was joined.
use Rattle.std.specs.Prelude.{◌≡◌, ℕ, Bool, true, false}
use Rattle.svc_station.specs.declared.reader.Reader.{Reader}
use Rattle.svc_station.specs.Ends.{history_at, known_to, reader_station}
use Rattle.svc_host.specs.declared.part_thread.PartThread.{PartThread}
use Rattle.svc_host.specs.declared.part_thread.PartThread.TheVariants.{Runs, Ended}
use Rattle.svc_host.specs.Parts.{Tells}

-- the reader of its station, as the host has it or last had it; and whether the thread was joined
abbrev pub reader_at : {R : Type 0} → PartThread R → Reader
reader_at (Runs running) = running.status_reader.reader
reader_at (Ended last) = last.reader.value

abbrev pub is_ended : {R : Type 0} → PartThread R → Bool
is_ended (Runs running) = false
is_ended (Ended last) = true

-- It is the same station, and more of its events may be known.
abbrev pub IsSameThread : {R : Type 0} → PartThread R → PartThread R → Type 0
IsSameThread old new =
    (reader_station (reader_at new) ≡ reader_station (reader_at old))
    × Tells (history_at (reader_at old)) (known_to (reader_at old)) (known_to (reader_at new))

-- how many letters were found in the mailbox of a service that was gone
abbrev pub untaken_at : {R : Type 0} → PartThread R → ℕ
untaken_at (Runs running) = 0
untaken_at (Ended last) = last.untaken

-- Nothing that is known of it has changed.
abbrev pub IsAsBefore : {R : Type 0} → PartThread R → PartThread R → Type 0
IsAsBefore old new =
    (reader_at new ≡ reader_at old) × (is_ended new ≡ is_ended old) × (untaken_at new ≡ untaken_at old)
