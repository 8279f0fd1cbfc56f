-- What a world was asked and what it returned, as one list of calls; and what happened, as one list of events.
use Rattle.std.specs.Prelude.{◌≡◌, ℕ, ◌+◌, ◌<◌, Bool, true, false, List, [], ◌∷◌, ◌++◌, map, Option, Some, None, ⊤}
use Rattle.tai_status.specs.Label.{Tai64n}
use Rattle.sup_core.specs.declared.asks.Ask.{Ask}
use Rattle.sup_core.specs.declared.asks.Ask.TheVariants.{Signal}
use Rattle.sup_core.specs.declared.event.Event.{Event}
use Rattle.sup_core.specs.declared.event.Event.TheVariants.{Byte, Started, StartFailed, Death, Clock}
use Rattle.tai_status.specs.declared.phase.Phase.{Phase}
use Rattle.tai_status.specs.declared.phase.Phase.TheVariants as phase
use Rattle.svc_house.specs.declared.call.Call.{Call}
use Rattle.svc_house.specs.declared.call.Call.TheVariants.{Requested, Answered, NoStart, NoDeath, Read}
use Rattle.svc_house.specs.declared.call.StartAnswer.{StartAnswer}
use Rattle.svc_house.specs.declared.call.StartAnswer.TheVariants as start
use Rattle.svc_house.specs.declared.pending.Pending.{Pending}
use Rattle.svc_house.specs.declared.pending.Pending.TheVariants.{Empty, One, ByteThenDeath}

-- A list that is kept was extended by these. It may stop being kept, for example if memory runs out, and is then never
-- kept again.
abbrev pub ExtendedWhileKept : {A : Type 0} → Option (List A) → Option (List A) → List A → Type 0
ExtendedWhileKept old None more = ⊤
ExtendedWhileKept None (Some new) more = ⊥
ExtendedWhileKept (Some old) (Some new) more = new ≡ old ++ more

-- What a trait has such a list for: `calls` is what it was called for, with the results, in order. From the old to the
-- new state this call was made, and no other.
abbrev pub MadeWhileKept : {S A : Type 0} → (calls : S → Option (List A)) → (call : A) → (old new : S) → Type 0
MadeWhileKept calls call old new = ExtendedWhileKept (calls old) (calls new) (call ∷ [])

-- A count that is kept rose by one. It stays kept.
abbrev pub CountsOne : Option ℕ → Option ℕ → Type 0
CountsOne None new = ⊤
CountsOne (Some old) None = ⊥
CountsOne (Some old) (Some new) = new ≡ old + 1

-- a list that is kept unless it was lost
abbrev pub unless : {A : Type 0} → Bool → List A → Option (List A)
unless true xs = None
unless false xs = Some xs

-- an optional value as a list
abbrev pub as_list : {A : Type 0} → Option A → List A
as_list None = []
as_list (Some x) = x ∷ []

-- Calls

-- The condition on an ask: a signal goes to one process, whose number is at least 1.
abbrev pub IsAsk : Ask → Type 0
IsAsk (Signal sig pid) = 0 < pid
IsAsk other = ⊤

-- The condition on the result of a start: a process has a number of at least 1.
abbrev pub IsAnswer : StartAnswer → Type 0
IsAnswer (start.Started pid label) = 0 < pid
IsAnswer (start.Failed label) = ⊤

-- the event of a start's result
abbrev pub event_of : StartAnswer → Event
event_of (start.Started pid label) = Started pid label
event_of (start.Failed label) = StartFailed label

-- the call that polled for the result of a start
abbrev pub start_poll : Option StartAnswer → Call
start_poll None = NoStart
start_poll (Some answer) = Answered (event_of answer)

-- the call that polled for a death
abbrev pub death_poll : Option Tai64n → Call
death_poll None = NoDeath
death_poll (Some label) = Answered (Death label)

-- the calls that make these asks
abbrev pub requested : List Ask → List Call
requested asks = map Requested asks

-- the starts, failed starts and deaths that the world returned in these calls
abbrev pub answers_in : List Call → List Event
answers_in [] = []
answers_in (Answered event ∷ calls) = event ∷ answers_in calls
answers_in (call ∷ calls) = answers_in calls

-- the labels that the clock gave in these calls
abbrev pub readings_in : List Call → List Tai64n
readings_in [] = []
readings_in (Read label ∷ calls) = label ∷ readings_in calls
readings_in (call ∷ calls) = readings_in calls

-- A clock reading is the last one in these calls.
abbrev pub IsLastReading : Event → List Call → Type 0
IsLastReading (Clock label) calls = (earlier : List Tai64n) × (readings_in calls ≡ earlier ++ label ∷ [])
IsLastReading event calls = ⊤

-- Events

-- the control bytes among these events
abbrev pub bytes_in : List Event → List ℕ
bytes_in [] = []
bytes_in (Byte byte ∷ events) = byte ∷ bytes_in events
bytes_in (event ∷ events) = bytes_in events

-- the starts, failed starts and deaths among these events
abbrev pub outcomes_in : List Event → List Event
outcomes_in [] = []
outcomes_in (Byte byte ∷ events) = outcomes_in events
outcomes_in (Clock label ∷ events) = outcomes_in events
outcomes_in (event ∷ events) = event ∷ outcomes_in events

-- Polls

-- The calls with which one event is found. While the service is up, the world is polled for a death, and then the inbox
-- is asked for a control byte. While it is down, the world is not called.
abbrev pub polls_for : Event → Phase → List Call
polls_for (Byte byte) phase.Up = NoDeath ∷ []
polls_for (Byte byte) other = []
polls_for (Clock label) other = Read label ∷ []
polls_for event other = Answered event ∷ []

-- the calls with which these events were found
abbrev pub polls_before : Pending → Phase → List Call
polls_before Empty phase = []
polls_before (One event) phase = polls_for event phase
polls_before (ByteThenDeath byte label) phase = Answered (Death label) ∷ []
