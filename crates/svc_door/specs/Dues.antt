-- Which parts will have a turn without an event, and when. Each part has a slot.
use Rattle.std.specs.Prelude.{ℕ, List, is_some, Option, None, option_and_then}
use Rattle.std.specs.List.{filter, fold}
use Rattle.slab.specs.Slab.{Slab, get}
use Rattle.svc_door.specs.declared.part.DoorPart.{DoorPart}
use Rattle.svc_door.specs.Rests.{sooner_of}

-- when the part in a slot is due
abbrev pub due_at : Slab DoorPart → (slot : ℕ) → Option ℕ
due_at parts slot = option_and_then (λ part. part.due) (get parts slot)

-- those of these slots that have a due part
abbrev pub due_slots : Slab DoorPart → (slots : List ℕ) → List ℕ
due_slots parts slots = filter (λ slot. is_some (due_at parts slot)) slots

-- when the first of these is due
abbrev pub soonest_due : Slab DoorPart → (slots : List ℕ) → Option ℕ
soonest_due parts slots = fold (λ soonest slot. sooner_of soonest (due_at parts slot)) None slots
