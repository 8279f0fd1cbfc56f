-- The parts at the door, each in a slot.
use Rattle.std.specs.Prelude.{◌≡◌, ◌≢◌, ℕ, ◌==◌, not, if◌then◌else◌, is_some, count_by, List, Option, Some, None}
use Rattle.std.specs.List.{filter}
use Rattle.std.specs.Option.{option_map}
use Rattle.slab.specs.Slab.{Slab, get}
use Rattle.mio.specs.declared.net.uds.listener.UnixListener.{UnixListener}
use Rattle.std.specs.declared.alloc.Global.{Global}
use Rattle.svc_house.specs.declared.control_sender.ControlSender.{ControlSender}
use Rattle.svc_door.specs.declared.part.DoorPart.{DoorPart}
use Rattle.svc_door.specs.Dues.{due_at}

-- how often a slot occurs in a list
abbrev pub times : (slot : ℕ) → List ℕ → ℕ
times slot slots = count_by (λ other. other == slot) slots

-- the number of the part in a slot
abbrev pub number_at : Slab DoorPart → (slot : ℕ) → Option ℕ
number_at parts slot = option_map (λ part. part.number) (get parts slot)

-- A part begins: it has no connection, and waits for an event of its listeners.
pub record Begins (life : ℕ) (given : ControlSender Global) (control ok : UnixListener) (part : DoorPart) : Type 0 where
  pub number : part.number ≡ life
  pub sender : part.sender ≡ given
  pub sockets : (part.control.socket ≡ control) × (part.ok.socket ≡ ok)
  pub watched : (part.control.watched ≡ Some part.token) × (part.ok.watched ≡ Some part.token)
  pub due : part.due ≡ None
  pub connection : part.connection ≡ None

-- A part that begins gets a slot that was free, which its events name. Each other slot is as it was.
pub record Admits (number : ℕ) (sender : ControlSender Global) (control ok : UnixListener) (old new : Slab DoorPart)
    : Type 0 where
  pub slot : ℕ
  pub part : DoorPart
  pub begins : Begins number sender control ok part
  pub token : part.token.0 ≡ slot
  pub was_free : get old slot ≡ None
  pub has : get new slot ≡ Some part
  pub others : (other : ℕ) → other ≢ slot → get new other ≡ get old other

-- The part with this number left its slot, and gave its sender back. The slot is no longer among those that have a
-- turn. All else is as it was.
pub record Dismisses (number : ℕ) (sender : ControlSender Global) (old new : Slab DoorPart) (slots slots_now : List ℕ)
    : Type 0 where
  pub slot : ℕ
  pub part : DoorPart
  pub had : get old slot ≡ Some part
  pub number_is : part.number ≡ number
  pub sender_is : part.sender ≡ sender
  pub is_free : get new slot ≡ None
  pub others : (other : ℕ) → other ≢ slot → get new other ≡ get old other
  pub turns : slots_now ≡ filter (λ other. not (other == slot)) slots

-- The slot of each due part is among these once, and no other slot is.
abbrev pub AreOpen : Slab DoorPart → (slots : List ℕ) → Type 0
AreOpen parts slots = (slot : ℕ) → times slot slots ≡ (if is_some (due_at parts slot) then 1 else 0)
