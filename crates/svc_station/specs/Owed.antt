-- Events that were added to a history and are not published.
use Rattle.std.specs.Prelude.{◌≡◌, ◌⊎◌, List, [], ◌∷◌, ◌++◌, Option, Some, None}
use Rattle.sup_core.specs.declared.event.Event.{Event}

-- these events, and then the one that is owed, if there is one
abbrev pub with_owed : List Event → Option Event → List Event
with_owed published None = published
with_owed published (Some event) = published ++ event ∷ []

-- After a publication of an event was refused: nothing was added, or that event is owed.
abbrev pub MayOwe : (event : Event) (added published : List Event) (now : List Event) → Type 0
MayOwe event added published now = (now ≡ added) ⊎ (now ≡ published ++ event ∷ [])

-- All that is published and then this event is what is added, whether the event was owed before or not.
abbrev pub Adds : (event : Event) (owed : Option Event) (added now : List Event) → Type 0
Adds event owed added now = (published : List Event) → added ≡ with_owed published owed → now ≡ published ++ event ∷ []
