-- The state of a service between two turns of its loop.
use Rattle.std.specs.Prelude.{◌≡◌, ℕ, List, ◌++◌, Option, IfSome, ⊤}
use Rattle.atomic_table.specs.Seated.{TableId}
use Rattle.sup_core.specs.declared.event.Event.{Event}
use Rattle.sup_core.specs.State.{State}
use Rattle.sup_core.specs.History.{History, Opened, state_of}
use Rattle.sup_core.specs.Runs.{followed_by, AreTaken}
use Rattle.svc_station.specs.declared.rule.Origin.{Origin}
use Rattle.svc_station.specs.declared.writer.Writer.{Writer}
use Rattle.svc_station.specs.Ends.{opening_of, published, station}
use Rattle.svc_house.specs.declared.call.Call.{Call}
use Rattle.svc_house.specs.declared.pending.Pending.{Pending}
use Rattle.svc_house.specs.declared.pending.Pending.TheVariants.{One}
use Rattle.svc_house.specs.Calls.{bytes_in, outcomes_in, answers_in, IsLastReading}
use Rattle.svc_house.specs.Pending.{events_in}

pub record Standing (I : Type 0) : Type 0 where
  -- the station that it publishes to, the machine that the station was opened with, and what was published
  pub station : Origin
  pub opening : State
  pub events : List Event
  -- what was found and is not published yet
  pub pending : Pending
  -- what the world was asked and what it returned, if the world keeps that
  pub calls : Option (List Call)
  -- how often the world was asked to mend, if it counts that
  pub mends : Option ℕ
  -- the source of its control bytes: the mailbox, if there is one; what the source gave; and how often it had none
  pub inbox : I
  pub source : Option (TableId × ℕ)
  pub given : List ℕ
  pub nones : ℕ
  -- how often its gate was passed, if that is counted
  pub passes : Option ℕ

module _ {I : Type 0} where
  -- a service with this writer and these pending events, and what its world, inbox and gate show
  abbrev pub standing : Writer → Pending → Option (List Call) → Option ℕ
      → I → Option (TableId × ℕ) → List ℕ → ℕ → Option ℕ → Standing I
  standing writer pending calls mends inbox source given nones passes = record {
    station = station writer;
    opening = opening_of writer;
    events = published writer;
    pending = pending;
    calls = calls;
    mends = mends;
    inbox = inbox;
    source = source;
    given = given;
    nones = nones;
    passes = passes;
  }

  -- the opening, and all events that were published
  abbrev pub past_of : Standing I → History
  past_of s = followed_by (Opened s.opening) s.events

  -- the state of its machine
  abbrev pub state_in : Standing I → State
  state_in s = state_of (past_of s)

  -- what was published, followed by what is pending
  abbrev pub found : Standing I → List Event
  found s = s.events ++ events_in s.pending

-- A clock reading that is pending is the last one that the world gave.
abbrev pub HoldsLastReading : Pending → Option (List Call) → Type 0
HoldsLastReading (One event) calls = IfSome calls (IsLastReading event)
HoldsLastReading other calls = ⊤

-- The conditions on every house.
pub record IsHouse {I : Type 0} (s : Standing I) : Type 0 where
  -- The control bytes that were published, and then a pending one, are those that the inbox gave.
  pub bytes : bytes_in (found s) ≡ s.given
  -- The starts, failed starts and deaths that were published, and then a pending one, are those that the world
  -- returned.
  pub outcomes : IfSome s.calls (λ calls. outcomes_in (found s) ≡ answers_in calls)
  -- The machine takes the pending events, one after another.
  pub ready : AreTaken (past_of s) (events_in s.pending)
  pub reading : HoldsLastReading s.pending s.calls
