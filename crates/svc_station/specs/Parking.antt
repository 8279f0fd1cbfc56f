-- What contracts say of a writer that a thread gives back.
use Rattle.std.specs.Prelude.{◌≡◌}
use mathlib.Core.List.{IsPrefix}
use Rattle.svc_station.specs.declared.parked.Parked.{Parked}
use Rattle.svc_station.specs.declared.writer.Writer.{Writer}
use Rattle.svc_station.specs.Ends.{published, station}

abbrev pub writer_in : {R : Type 0} → Parked R → Writer
writer_in parked = parked.writer

-- the writer of the same station, with a history that continues what had been published
abbrev pub GoesOn : Writer → Writer → Type 0
GoesOn old new = (station new ≡ station old) × IsPrefix (published old) (published new)
