-- A turn, in two halves: it finds what was pending or what happened, and publishes it.
use Rattle.std.proofs.Common.{◌≡◌, ◌≢◌, ℕ, Option, [], ◌∷◌, ◌++◌, Result, Ok, Err, IfSome, IfOk, OnOk, OnErr, refl, sym}
use Rattle.std.proofs.Common.{ap, ◌∙◌, subst, arith}
use Rattle.tai_status.specs.Counted.{Rose}
use Rattle.sup_core.specs.declared.event.Event.{Event}
use Rattle.sup_core.specs.History.{History, Opened}
use Rattle.sup_core.specs.Rules.{asks_of}
use Rattle.sup_core.specs.Runs.{followed_by}
use Rattle.svc_house.specs.declared.pending.Pending.{Pending}
use Rattle.svc_house.specs.declared.pending.Pending.TheVariants.{Empty, One, ByteThenDeath}
use Rattle.svc_house.specs.declared.turned.Turned.{Turned}
use Rattle.svc_house.specs.declared.turned.Turned.TheVariants.{Idle, Took, Ended}
use Rattle.svc_house.specs.declared.turned.HouseFault.{HouseFault}
use Rattle.svc_house.specs.Calls.{ExtendedWhileKept, requested, IsLastReading}
use Rattle.svc_house.specs.Pending.{events_in, rest_of}
use Rattle.svc_house.specs.Standing.{Standing, past_of}
use Rattle.svc_house.specs.Turn.{phase_in, polls_of, IsAbout, IsRefused, IsSameHouse, IsTurn, Listens}
use Rattle.svc_house.specs.Turn.{PassesGate}
use Rattle.svc_house.specs.Turn.{Takes}
use Rattle.svc_house.proofs.Extended.{extended-append}

-- what is known after the next pending event was published, or memory for it ran out
pub record Published {I : Type 0} (mid : Standing I) (event : Event) (result : Result Turned HouseFault)
    (new : Standing I) : Type 0 where
  pub took : IfOk result (λ turned. turned ≡ Took event)
  pub events : OnOk result (new.events ≡ mid.events ++ event ∷ [])
  pub requested : OnOk result (ExtendedWhileKept mid.calls new.calls (requested (asks_of (past_of mid) event)))
  pub reading : OnOk result (IfSome new.calls (IsLastReading event))
  pub pending : OnOk result (new.pending ≡ rest_of mid.pending)
  pub nones : OnOk result (new.nones ≡ mid.nones)
  pub gate : OnOk result (new.passes ≡ mid.passes)
  pub refused : OnErr result (new ≡ mid)

-- what is known after something was found
pub record Found {I : Type 0} (old : Standing I) (event : Event) (mid : Standing I) : Type 0 where
  pub none : old.pending ≡ Empty
  pub same : IsSameHouse old mid
  pub events : mid.events ≡ old.events
  pub next : events_in mid.pending ≡ event ∷ events_in (rest_of mid.pending)
  pub polls : mid.pending ≢ Empty → ExtendedWhileKept old.calls mid.calls (polls_of old mid.pending)
  pub listens : Listens old mid.pending mid
  pub gate : PassesGate Empty (phase_in old) old.passes mid.passes

some-pending : (pending : Pending) (event : Event) → events_in pending ≡ event ∷ events_in (rest_of pending)
    → pending ≢ Empty
some-pending Empty event next = λ e. grind (arith, next)
some-pending (One one) event next = λ e. grind (arith, e)
some-pending (ByteThenDeath byte label) event next = λ e. grind (arith, e)

about-empty : (pending found : Pending) → pending ≡ Empty → IsAbout pending found
about-empty pending found none = subst (λ (h : Pending). IsAbout h found) (sym none) tt

module _ {I : Type 0} where
  same_past : (old mid : Standing I) → IsSameHouse old mid → mid.events ≡ old.events → past_of mid ≡ past_of old
  same_past old mid same events = λ i. followed_by (Opened (same.opening i)) (events i)

  -- An event that was found was published.
  takes-found : (old mid new : Standing I) (event : Event) → Found old event mid
      → Published mid event (Ok (Took event)) new
      → Takes old event new
  takes-found old mid new event found done =
      let asks : ExtendedWhileKept mid.calls new.calls (requested (asks_of (past_of old) event)) =
      subst (λ (past : History). ExtendedWhileKept mid.calls new.calls (requested (asks_of past event)))
      (same_past old mid found.same found.events) done.requested in record {
        pending = mid.pending;
        about = about-empty old.pending mid.pending found.none;
        next = found.next ∙ ap (λ h. event ∷ events_in h) (sym done.pending);
        listens = λ none bytes without.
            subst (λ n. Rose old.nones n) (sym done.nones) (found.listens none bytes without);
        gate = subst (λ (t : Pending × Option ℕ). PassesGate t.0 (phase_in old) old.passes t.1)
            (λ i. (sym found.none i, sym done.gate i)) found.gate;
        events = done.events ∙ ap (λ l. l ++ event ∷ []) found.events;
        calls = extended-append old.calls mid.calls new.calls (polls_of old mid.pending)
            (requested (asks_of (past_of old) event))
            (found.polls (some-pending mid.pending event found.next)) asks;
        reading = done.reading;
      }

  pub turned-found : (old mid new : Standing I) (event : Event) (result : Result Turned HouseFault)
      → Found old event mid
      → Published mid event result new → IfOk result (λ turned. IsTurn old turned new)
  turned-found old mid new event (Err fault) found done = tt
  turned-found old mid new event (Ok turned) found done =
      subst (λ (t : Turned). IsTurn old t new) (sym done.took)
      (takes-found old mid new event found (record {
        took = refl;
        events = done.events;
        requested = done.requested;
        reading = done.reading;
        pending = done.pending;
        nones = done.nones;
        gate = done.gate;
        refused = tt;
      }))

  -- Memory for the event ran out.
  pub refused-found : (old mid new : Standing I) (event : Event) (result : Result Turned HouseFault)
      → Found old event mid
      → Published mid event result new → OnErr result (IsRefused old new)
  refused-found old mid new event (Ok turned) found done = tt
  refused-found old mid new event (Err fault) found done =
      subst (λ (s : Standing I). IsRefused old s) (sym done.refused) (record {
        about = about-empty old.pending mid.pending found.none;
        some = some-pending mid.pending event found.next;
        listens = found.listens;
        gate = subst (λ (h : Pending). PassesGate h (phase_in old) old.passes mid.passes) (sym found.none) found.gate;
        events = found.events;
        calls = found.polls (some-pending mid.pending event found.next);
      })

  -- A turn after the mending is a turn of the house before it.
  mended-turn : (old new : Standing I) (mends : Option ℕ) (turned : Turned)
      → IsTurn (record old { mends = mends }) turned new → IsTurn old turned new
  mended-turn old new mends Idle turn = record {
    none = turn.none;
    polls = turn.polls;
    listens = turn.listens;
    gate = turn.gate;
    events = turn.events;
    pending = turn.pending;
  }
  mended-turn old new mends (Took event) turn = record {
    pending = turn.pending;
    about = turn.about;
    next = turn.next;
    listens = turn.listens;
    gate = turn.gate;
    events = turn.events;
    calls = turn.calls;
    reading = turn.reading;
  }
  mended-turn old new mends Ended turn = turn

  pub turned-mended : (old mid new : Standing I) (result : Result Turned HouseFault)
      → mid ≡ record old { mends = mid.mends } → IfOk result (λ turned. IsTurn mid turned new)
      → IfOk result (λ turned. IsTurn old turned new)
  turned-mended old mid new (Err fault) same turn = tt
  turned-mended old mid new (Ok turned) same turn =
      mended-turn old new mid.mends turned (subst (λ (s : Standing I). IsTurn s turned new) same turn)
