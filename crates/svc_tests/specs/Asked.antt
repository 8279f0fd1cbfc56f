-- What a world was asked, compared with what the written table asks for.
use Rattle.std.specs.Prelude.{◌≡◌, Bool, List, [], ◌∷◌, ◌++◌, IfSome, Option, Result, Ok}
use Rattle.tai_status.specs.Label.{Tai64n}
use Rattle.sup_core.specs.declared.asks.Ask.{Ask}
use Rattle.sup_core.specs.declared.event.Event.{Event}
use Rattle.sup_core.specs.History.{Begin, Opened, state_of}
use Rattle.sup_core.specs.Rules.{asks_of_begin}
use Rattle.sup_core.specs.Runs.{asks_along}
use Rattle.svc_house.specs.declared.call.Call.{Call}
use Rattle.svc_house.specs.declared.call.Call.TheVariants.{Requested}
use Rattle.svc_house.specs.declared.turned.HouseFault.{HouseFault}
use Rattle.svc_house.specs.declared.turned.Turned.{Turned}
use Rattle.svc_house.specs.declared.turned.Turned.TheVariants.{Took}

-- the asks among these calls, in order
abbrev pub asks_in : List Call → List Ask
asks_in [] = []
asks_in (Requested ask ∷ calls) = ask ∷ asks_in calls
asks_in (call ∷ calls) = asks_in calls

-- what the written table asks for when a service begins, and at these events
abbrev pub wanted_asks : (down : Bool) → Tai64n → List Event → List Ask
wanted_asks down label events =
    asks_of_begin (Begin down label) ++ asks_along (Opened (state_of (Begin down label))) events

-- the event that a turn took, as a list
abbrev pub taken_by : Result Turned HouseFault → List Event
taken_by (Ok (Took event)) = event ∷ []
taken_by turned = []

-- The asks in these calls, if they were kept, are those of the written table.
abbrev pub IsAskedSo : (down : Bool) → Tai64n → List Event → Option (List Call) → Type 0
IsAskedSo down label events calls = IfSome calls (λ calls. asks_in calls ≡ wanted_asks down label events)
