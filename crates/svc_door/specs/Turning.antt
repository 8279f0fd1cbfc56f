-- What the turns of the door do to its parts, each of them in a slot.
use Rattle.std.specs.Prelude.{◌≡◌, ◌⊎◌, ℕ, ◌<◌, ◌≤◌, List, map, Option, Some, None, IsSomeAnd}
use Rattle.mio.specs.Event.{event_token}
use Rattle.mio.specs.declared.event.event.Event.{Event}
use Rattle.slab.specs.Slab.{Slab, get}
use Rattle.svc_mail.specs.Ends.{IsSameSender}
use Rattle.svc_house.specs.Mail.{posted_by, sender_in}
use Rattle.svc_door.specs.declared.part.DoorPart.{DoorPart}
use Rattle.svc_door.specs.Listening.{IsSame}
use Rattle.svc_door.specs.Slots.{times}
use Rattle.svc_door.specs.Turns.{TakesTurn}

-- the slot in an event's token
abbrev pub slot_of : Event → ℕ
slot_of event = (event_token event).0

module _ (now : ℕ) where
  -- A part is due now.
  abbrev pub IsDue : DoorPart → Type 0
  IsDue part = IsSomeAnd part.due (λ due. due ≤ now)

  -- A part had its turn. It keeps its number, its token and its listeners, and posts through the same sender of the
  -- same mailbox.
  pub record HadTurn (old new : DoorPart) : Type 0 where
    pub number : new.number ≡ old.number
    pub token : new.token ≡ old.token
    pub listeners : IsSame old.control new.control × IsSame old.ok new.ok
    pub sender : IsSameSender (sender_in old.sender) (sender_in new.sender)
    pub turn : TakesTurn (posted_by old.sender) (posted_by new.sender) now new.ok new.control
        old.connection new.connection new.due

  -- The part in a slot had one turn if it was due. Otherwise the slot is as it was.
  abbrev pub TurnsIfDue : (old new : Option DoorPart) → Type 0
  TurnsIfDue None new = new ≡ None
  TurnsIfDue (Some old) new = (IsDue old × IsSomeAnd new (HadTurn old)) ⊎ ((IsDue old → ⊥) × (new ≡ Some old))

  -- Each part that was due had one turn, and each other part is as it was.
  abbrev pub HaveTurns : (old new : Slab DoorPart) → Type 0
  HaveTurns old new = (slot : ℕ) → TurnsIfDue (get old slot) (get new slot)

  -- These slots had their turns. A slot that is not among them is as it was. A slot that is among them once had its
  -- turn.
  abbrev pub TurnsOf : (slots : List ℕ) → (old new : Slab DoorPart) → Type 0
  TurnsOf slots old new = (slot : ℕ)
      → (times slot slots ≡ 0 → get new slot ≡ get old slot)
      × (times slot slots ≡ 1 → TurnsIfDue (get old slot) (get new slot))

  -- A part is due now, and otherwise as it was.
  pub record IsWoken (old new : DoorPart) : Type 0 where
    pub due : new.due ≡ Some now
    pub token : new.token ≡ old.token
    pub number : new.number ≡ old.number
    pub sender : new.sender ≡ old.sender
    pub connection : new.connection ≡ old.connection
    pub listeners : (new.control ≡ old.control) × (new.ok ≡ old.ok)

  -- The part in a slot, if there is one, is due now.
  abbrev pub Wakes : (old new : Option DoorPart) → Type 0
  Wakes None new = new ≡ None
  Wakes (Some old) new = IsSomeAnd new (IsWoken old)

  -- Each part in one of these slots is due now, and each other slot is as it was.
  abbrev pub WakesEach : (slots : List ℕ) → (old new : Slab DoorPart) → Type 0
  WakesEach slots old new = (slot : ℕ)
      → (times slot slots ≡ 0 → get new slot ≡ get old slot)
      × (0 < times slot slots → Wakes (get old slot) (get new slot))

  -- These events came: the parts that they name are due now, and then each part that is due has one turn.
  pub record HasRound (events : List Event) (old new : Slab DoorPart) : Type 0 where
    pub woken : Slab DoorPart
    pub wakes : WakesEach (map slot_of events) old woken
    pub turns : HaveTurns woken new
