-- Events that were found and are not published yet.
use Rattle.std.specs.Prelude.{◌≡◌, Bool, true, false, List, [], ◌∷◌}
use Rattle.sup_core.specs.declared.event.Event.{Event}
use Rattle.sup_core.specs.declared.event.Event.TheVariants.{Byte, Death}
use Rattle.svc_house.specs.declared.pending.Pending.{Pending}
use Rattle.svc_house.specs.declared.pending.Pending.TheVariants.{Empty, One, ByteThenDeath}

-- the pending events, in the order in which they are published
abbrev pub events_in : Pending → List Event
events_in Empty = []
events_in (One event) = event ∷ []
events_in (ByteThenDeath byte label) = Byte byte ∷ Death label ∷ []

abbrev pub is_empty : Pending → Bool
is_empty Empty = true
is_empty other = false

-- what is pending after the first event is published
abbrev pub rest_of : Pending → Pending
rest_of (ByteThenDeath byte label) = One (Death label)
rest_of other = Empty

-- This event is published next.
abbrev pub IsNext : Event → Pending → Type 0
IsNext event pending = events_in pending ≡ event ∷ events_in (rest_of pending)

-- whether a control byte is pending
abbrev pub has_byte : Pending → Bool
has_byte (One (Byte byte)) = true
has_byte (ByteThenDeath byte label) = true
has_byte other = false
