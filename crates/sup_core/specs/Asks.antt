-- What one step may ask for.
use Rattle.std.specs.Prelude.{ℕ, ◌≤◌, Bool, true, false, List, [], ◌∷◌, length, count_by}
use Rattle.sup_core.specs.declared.asks.Ask.{Ask}
use Rattle.sup_core.specs.declared.asks.Ask.TheVariants.{Write}
use Rattle.sup_core.specs.declared.asks.Reply.{Reply}
use Rattle.sup_core.specs.declared.asks.Reply.TheVariants.{Held, Took}

abbrev pub is_write : Ask → Bool
is_write (Write bytes) = true
is_write other = false

abbrev pub count_of_writes : List Ask → ℕ
count_of_writes asks = count_by is_write asks

-- There are at most three asks, and at most one of them is a record.
pub record AreAsks (asks : List Ask) : Type 0 where
  pub few : length asks ≤ 3
  pub one_record : count_of_writes asks ≤ 1

-- the records among these asks, in order
abbrev pub records_of : List Ask → List (List ℕ)
records_of [] = []
records_of (Write bytes ∷ asks) = bytes ∷ records_of asks
records_of (ask ∷ asks) = records_of asks

-- the records that a reply asks for, in order
abbrev pub records_in : Reply → List (List ℕ)
records_in Held = []
records_in (Took asks) = records_of asks
