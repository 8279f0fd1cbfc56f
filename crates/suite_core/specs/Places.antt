-- The places of parts. No public contract names these definitions.
use Rattle.std.specs.Prelude.{◌≡◌, ◌≢◌, ℕ, ◌+◌, ◌*◌, ◌<◌, ◌≤◌, Bool, true, List, map, length, slice_index_or}
use Rattle.std.specs.List.{All, AllPairs, flat_map}
use Rattle.scan_table.specs.declared.part.PartId.{PartId}
use Rattle.scan_table.specs.declared.part.Role.{Role}
use Rattle.scan_table.specs.declared.part.Role.TheVariants.{Main, Log}
use Rattle.scan_table.specs.Slots.{SlotState, SlotPart, parts_of}
use Rattle.scan_table.specs.Table.{TableState}
use Rattle.scan_table.specs.Index.{IsBefore, IsNumbered}
use Rattle.sup_trace.specs.Trace.{IsTrace}
use Rattle.suite_core.specs.Parts.{PartState, is_part, has_ended}
use Rattle.suite_core.specs.Suite.{SuiteState}

-- the order of parts: by slot, a service before its logger
abbrev pub rank_in : Role → ℕ
rank_in Main = 0
rank_in Log = 1

abbrev pub rank : PartId → ℕ
rank id = 2 * id.slot + rank_in id.role

abbrev pub AreRising : List PartState → Type 0
AreRising parts = AllPairs (λ (a : PartState) (b : PartState). rank a.id < rank b.id) parts

-- The parts before a place come before this part. Those from the place on do not.
pub record IsEdge (parts : List PartState) (id : PartId) (place : ℕ) : Type 0 where
  pub within : place ≤ length parts
  pub before : (k : ℕ) (d : PartState) → k < place → rank (slice_index_or parts k d).id < rank id
  pub after : (k : ℕ) (d : PartState) → place ≤ k → k < length parts → rank id ≤ rank (slice_index_or parts k d).id

-- The part with this name is at this place.
pub record IsPartAt (parts : List PartState) (id : PartId) (place : ℕ) : Type 0 where
  pub within : place < length parts
  pub here : (d : PartState) → is_part (slice_index_or parts place d).id id ≡ true

-- The part with this slot and role is at this place.
pub record IsPlaceOf (parts : List PartState) (id : PartId) (place : ℕ) : Type 0 where
  pub within : place < length parts
  pub here : (d : PartState) → rank (slice_index_or parts place d).id ≡ rank id

abbrev pub HasNone : List PartState → PartId → Type 0
HasNone parts id = All (λ (part : PartState). rank part.id ≢ rank id) parts

-- a part's name and whether the part has ended, as both the table and its trace have it
pub record Seen : Type 0 where
  pub id : PartId
  pub ended : Bool

abbrev pub seen : PartState → Seen
seen part = record { id = part.id; ended = has_ended part.trace }

abbrev pub seen_life : ℕ → SlotPart → Seen
seen_life number part =
    record { id = record { slot = number; role = part.role; life = part.life.number }; ended = part.life.has_ended }

abbrev pub seen_in : SlotState → List Seen
seen_in slot = map (seen_life slot.number) (parts_of slot)

-- The parts are those of the table, and a part has ended in the table exactly if its machine is gone.
abbrev pub AreTied : TableState → List PartState → Type 0
AreTied table parts = map seen parts ≡ flat_map seen_in table.slots

-- the conditions on every suite
pub record IsSuite (suite : SuiteState) : Type 0 where
  pub room : 0 < suite.capacity
  pub limit : suite.capacity ≤ 65536
  pub rising : AllPairs IsBefore suite.table.slots
  pub numbered : All (IsNumbered suite.table.next) suite.table.slots
  pub tied : AreTied suite.table suite.parts
  pub traces : All (λ (part : PartState). IsTrace part.trace) suite.parts
