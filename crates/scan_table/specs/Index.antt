-- An index of names: the places of names, in the byte order of the names.
use Rattle.std.specs.Prelude.{◌≡◌, ℕ, ◌<◌, ◌≤◌, ◌≢◌, List, [], length, slice_index, slice_index_or, map, Result, Ok}
use Rattle.std.specs.Prelude.{Err}
use Rattle.std.specs.List.{All, AllPairs}
use Rattle.std.specs.Option.{IfSome}
use Rattle.std.specs.declared.cmp.Ordering.TheVariants.{Less, Equal, Greater}
use Rattle.scan_table.specs.declared.slot.Life.{Life}
use Rattle.scan_table.specs.Slots.{name_order, SlotState}

abbrev pub names_of : List SlotState → List (List ℕ)
names_of slots = map (λ (slot : SlotState). slot.name) slots

-- the name at a place of an index
abbrev pub name_at : List (List ℕ) → List ℕ → ℕ → List ℕ
name_at names index place = slice_index_or names (slice_index index place) []

-- An index of the first names, one for each of its places: each of these names once, in byte order.
pub record IsIndex (names : List (List ℕ)) (index : List ℕ) : Type 0 where
  pub within : (k : ℕ) → k < length index → slice_index index k < length index
  pub rising : (j k : ℕ) → j < k → k < length index → name_order (name_at names index j) (name_at names index k) ≡ Less
  pub all : (place : ℕ) → place < length index → (k : ℕ) × (k < length index) × (slice_index index k ≡ place)

-- All names of an index before a place are smaller than this name.
abbrev pub ArePassed : List (List ℕ) → List ℕ → ℕ → List ℕ → Type 0
ArePassed names index place name = (k : ℕ) → k < place → name_order (name_at names index k) name ≡ Less

-- the place of a name in an index, or the place between two names at which it belongs
abbrev pub IsSearched : List (List ℕ) → List ℕ → List ℕ → Result ℕ ℕ → Type 0
IsSearched names index name (Ok place) =
    (place < length index) × (name_order (name_at names index place) name ≡ Equal)
IsSearched names index name (Err place) =
    (place ≤ length index)
    × ArePassed names index place name
    × ((k : ℕ) → place ≤ k → k < length index → name_order (name_at names index k) name ≡ Greater)

-- No two slots have the same name.
abbrev pub AreDistinct : List SlotState → Type 0
AreDistinct slots = AllPairs (λ (a : SlotState) (b : SlotState). a.name ≢ b.name) slots

-- A slot comes before another if its number is smaller.
abbrev pub IsBefore : SlotState → SlotState → Type 0
IsBefore a b = a.number < b.number

-- The slot's number and the numbers of its lives were given before this number.
pub record IsNumbered (next : ℕ) (slot : SlotState) : Type 0 where
  pub number : slot.number < next
  pub main : slot.main.number < next
  pub log : IfSome slot.log (λ (life : Life). life.number < next)

-- the conditions on every table and its index
pub record IsTable (slots : List SlotState) (next : ℕ) (index : List ℕ) : Type 0 where
  pub rising : AllPairs IsBefore slots
  pub numbered : All (IsNumbered next) slots
  pub indexed : IsIndex (names_of slots) index
  pub whole : length index ≡ length slots

-- The slot with this number is at this place.
pub record IsPlaceOf (slots : List SlotState) (number : ℕ) (place : ℕ) : Type 0 where
  pub within : place < length slots
  pub here : (d : SlotState) → (slice_index_or slots place d).number ≡ number

-- No slot has this number.
abbrev pub HasNot : List SlotState → ℕ → Type 0
HasNot slots number = All (λ (slot : SlotState). slot.number ≢ number) slots
