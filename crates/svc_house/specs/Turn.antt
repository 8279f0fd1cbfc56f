-- What one turn of a service's loop does.
use Rattle.std.specs.Prelude.{◌≡◌, ◌≢◌, ℕ, Bool, true, false, List, [], ◌∷◌, ◌++◌, Option, IfSome, ⊤}
use Rattle.tai_status.specs.Label.{Tai64n}
use Rattle.tai_status.specs.Counted.{Rose}
use Rattle.sup_core.specs.declared.event.Event.{Event}
use Rattle.tai_status.specs.declared.phase.Phase.{Phase}
use Rattle.tai_status.specs.declared.phase.Phase.TheVariants as phase
use Rattle.sup_core.specs.Rules.{asks_of, is_reached}
use Rattle.svc_house.specs.declared.call.Call.{Call}
use Rattle.svc_house.specs.declared.call.Call.TheVariants.{NoStart, NoDeath, Read}
use Rattle.svc_house.specs.declared.pending.Pending.{Pending}
use Rattle.svc_house.specs.declared.pending.Pending.TheVariants.{Empty}
use Rattle.svc_house.specs.declared.turned.Turned.{Turned}
use Rattle.svc_house.specs.declared.turned.Turned.TheVariants.{Idle, Took, Ended}
use Rattle.svc_house.specs.Calls.{CountsOne, ExtendedWhileKept, requested, polls_before, IsLastReading}
use Rattle.svc_house.specs.Pending.{events_in, has_byte}
use Rattle.svc_house.specs.Standing.{Standing, past_of, state_in}

-- whether control bytes are taken
abbrev pub takes_bytes : Phase → Bool
takes_bytes phase.Up = true
takes_bytes phase.Down = true
takes_bytes other = false

-- The clock was read, and gave a label before the end of the pause.
abbrev pub ReadEarly : Option Tai64n → Option (List Call) → Option (List Call) → Type 0
ReadEarly until old new =
    (label : Tai64n) × ExtendedWhileKept old new (Read label ∷ []) × (is_reached until label ≡ false)

-- Each poll of the phase was made, and found nothing.
abbrev pub PolledInVain : Phase → Option Tai64n → Option (List Call) → Option (List Call) → Type 0
PolledInVain phase.Starting until old new = ExtendedWhileKept old new (NoStart ∷ [])
PolledInVain phase.Settling until old new = ReadEarly until old new
PolledInVain phase.Resting until old new = ReadEarly until old new
PolledInVain phase.Up until old new = ExtendedWhileKept old new (NoDeath ∷ [])
PolledInVain other until old new = new ≡ old

-- A turn is about these events: those that were pending, or those that were found if none was pending.
abbrev pub IsAbout : Pending → Pending → Type 0
IsAbout Empty found = ⊤
IsAbout pending found = found ≡ pending

-- the polls of a turn about these events; there are none if something was pending
abbrev pub polls_with : Pending → Pending → Phase → List Call
polls_with Empty found phase = polls_before found phase
polls_with pending found phase = []

module _ {I : Type 0} where
  -- the phase of its machine
  abbrev pub phase_in : Standing I → Phase
  phase_in s = (state_in s).phase

  -- the polls of a turn about these events
  abbrev pub polls_of : Standing I → Pending → List Call
  polls_of s found = polls_with s.pending found (phase_in s)

-- If control bytes are taken and nothing was pending, the inbox was asked for one: it gave one, or had none.
abbrev pub Listens : {I : Type 0} → Standing I → Pending → Standing I → Type 0
Listens old found new =
    old.pending ≡ Empty → takes_bytes (phase_in old) ≡ true → has_byte found ≡ false → Rose old.nones new.nones

-- The gate was passed once if the result of a start is polled, and not at all otherwise.
abbrev pub PassesGate : Pending → Phase → Option ℕ → Option ℕ → Type 0
PassesGate Empty phase.Starting old new = CountsOne old new
PassesGate pending phase old new = new ≡ old

-- The service is the same: its station, and the mailbox of its control bytes, stay.
pub record IsSameHouse {I : Type 0} (old new : Standing I) : Type 0 where
  pub station : new.station ≡ old.station
  pub opening : new.opening ≡ old.opening
  pub source : new.source ≡ old.source

-- An event was published, and then the world was asked what the event asks for, in order. The event was pending, or was
-- found in this turn. A death that was found with a control byte is pending now. A clock reading is the last one that
-- the world gave.
pub record Takes {I : Type 0} (old : Standing I) (event : Event) (new : Standing I) : Type 0 where
  pub pending : Pending
  pub about : IsAbout old.pending pending
  pub next : events_in pending ≡ event ∷ events_in new.pending
  pub listens : Listens old pending new
  pub gate : PassesGate old.pending (phase_in old) old.passes new.passes
  pub events : new.events ≡ old.events ++ event ∷ []
  pub calls : ExtendedWhileKept old.calls new.calls (polls_of old pending ++ requested (asks_of (past_of old) event))
  pub reading : IfSome new.calls (IsLastReading event)

-- Nothing was pending and nothing was found, so nothing was published or asked.
pub record IsIdle {I : Type 0} (old new : Standing I) : Type 0 where
  pub none : old.pending ≡ Empty
  pub polls : PolledInVain (phase_in old) (state_in old).until old.calls new.calls
  pub listens : Listens old Empty new
  pub gate : PassesGate Empty (phase_in old) old.passes new.passes
  pub events : new.events ≡ old.events
  pub pending : new.pending ≡ Empty

-- what a turn did
abbrev pub IsTurn : {I : Type 0} → Standing I → Turned → Standing I → Type 0
IsTurn old Idle new = IsIdle old new
IsTurn old (Took event) new = Takes old event new
IsTurn old Ended new = new ≡ record old { mends = new.mends }

-- There was no memory to publish an event. What was found is pending, and nothing was published or asked.
pub record IsRefused {I : Type 0} (old new : Standing I) : Type 0 where
  pub about : IsAbout old.pending new.pending
  pub some : new.pending ≢ Empty
  pub listens : Listens old new.pending new
  pub gate : PassesGate old.pending (phase_in old) old.passes new.passes
  pub events : new.events ≡ old.events
  pub calls : ExtendedWhileKept old.calls new.calls (polls_of old new.pending)
