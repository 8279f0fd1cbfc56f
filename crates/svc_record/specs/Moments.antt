-- Lines with the number of a process at the beginning and a time at the end.
use Rattle.std.specs.Prelude.{◌≡◌, ◌<◌, ◌^◌, ℕ, List, [], ◌∷◌, ◌++◌, codes, decimal, Option, Some, IfSome}
use Rattle.tai_status.specs.Label.{IsLabel, label_text}
use Rattle.sup_core.specs.Reading.{fields}
use Rattle.svc_record.specs.declared.moment.Moment.{Moment}

-- the line that says nothing else
abbrev pub moment_text : Moment → List ℕ
moment_text moment = decimal moment.pid ++ codes " " ++ label_text moment.label ++ 10 ∷ []

-- The number and the time fit their types.
pub record IsMoment (moment : Moment) : Type 0 where
  pub pid : moment.pid < 2 ^ 32
  pub label : IsLabel moment.label

-- The first field of a line is the number of this process, and this time and a newline are at its end.
pub record Marks (line : List ℕ) (moment : Moment) : Type 0 where
  pub rest : List (List ℕ)
  pub begins : fields line ≡ decimal moment.pid ∷ rest
  pub front : List ℕ
  pub ends : line ≡ front ++ label_text moment.label ++ 10 ∷ []

-- What a line says of a process and a time: the only moment that it has, or none.
pub record IsMomentIn (line : List ℕ) (found : Option Moment) : Type 0 where
  pub has : IfSome found (Marks line)
  pub only : (moment : Moment) → IsMoment moment → Marks line moment → found ≡ Some moment
