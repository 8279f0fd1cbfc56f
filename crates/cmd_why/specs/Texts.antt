-- What is known about the traces of services, and about local times.
use Rattle.std.specs.Prelude.{ℕ, List, Option}
use Rattle.tai_status.specs.Label.{Tai64n}

-- What is known: the bytes of the trace of the service in each folder, and the text of each label.
pub record Knowledge : Type 0 where
  pub traces : List ℕ → Option (List ℕ)
  pub times : Tai64n → Option (List ℕ)

abbrev pub knowledge : (traces : List ℕ → Option (List ℕ)) (times : Tai64n → Option (List ℕ)) → Knowledge
knowledge traces times = record { traces = traces; times = times }
