-- Lists of events, one after another: the history after them, the replies to them, and what they ask for.
use Rattle.std.specs.Prelude.{◌≡◌, true, if◌then◌else◌, List, [], ◌∷◌, ◌++◌, ⊤}
use Rattle.sup_core.specs.declared.asks.Ask.{Ask}
use Rattle.sup_core.specs.declared.asks.Reply.{Reply}
use Rattle.sup_core.specs.declared.event.Event.{Event}
use Rattle.sup_core.specs.History.{History, Opened, Then, state_of}
use Rattle.sup_core.specs.Rules.{IsEvent, takes, asks_of, next, reply_to}

-- the history with these events taken after it, in order
abbrev pub followed_by : History → List Event → History
followed_by past [] = past
followed_by past (event ∷ events) = followed_by (Then past event) events

-- Each of these events is taken in its turn.
abbrev pub AreTaken : History → List Event → Type 0
AreTaken past [] = ⊤
AreTaken past (event ∷ events) =
    IsEvent event × (takes past event ≡ true) × AreTaken (Then past event) events

-- the history after these events
abbrev pub after : History → List Event → History
after past [] = past
after past (event ∷ events) = after (next past event) events

-- those of these events that are taken in their turn
abbrev pub taken_of : History → List Event → List Event
taken_of past [] = []
taken_of past (event ∷ events) =
    if takes past event then event ∷ taken_of (Then past event) events else taken_of past events

-- what is asked for at these events, one after another, if each is taken
abbrev pub asks_along : History → List Event → List Ask
asks_along past [] = []
asks_along past (event ∷ events) = asks_of past event ++ asks_along (Then past event) events

-- the replies to these events, one after another
abbrev pub replies_to : History → List Event → List Reply
replies_to past [] = []
replies_to past (event ∷ events) = reply_to past event ∷ replies_to (next past event) events

-- the history that opens with the machine in its state after these events
abbrev pub reopened : History → List Event → History
reopened past events = Opened (state_of (after past events))
