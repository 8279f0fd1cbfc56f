-- How publishing an event changes the facts of a house.
use Rattle.std.proofs.Common.{◌≡◌, ℕ, List, [], ◌∷◌, ◌++◌, Option, Some, None, IfSome, sym, ap, ◌∙◌, subst}
use Rattle.std.proofs.Common.{Bool, true, false, if◌then◌else◌, refl, append_assoc, arith}
use Rattle.std.proofs.lemmas.List.{append-nil}
use Rattle.sup_core.specs.declared.asks.Ask.{Ask}
use Rattle.sup_core.specs.declared.event.Event.{Event}
use Rattle.sup_core.specs.declared.event.Event.TheVariants.{Byte, Started, StartFailed, Death, Clock}
use Rattle.sup_core.specs.State.{State}
use Rattle.sup_core.specs.History.{History, Opened}
use Rattle.sup_core.specs.Runs.{AreTaken, followed_by}
use Rattle.sup_core.proofs.Laws.{followed_by-append}
use Rattle.sup_core.specs.declared.asks.Reply.TheVariants.{Held, Took}
use Rattle.sup_core.specs.Rules.{asks_of, reply_to, takes}
use Rattle.svc_house.specs.declared.call.Call.{Call}
use Rattle.svc_house.specs.declared.pending.Pending.{Pending}
use Rattle.svc_house.specs.declared.pending.Pending.TheVariants.{Empty, One, ByteThenDeath}
use Rattle.svc_house.specs.Calls.{ExtendedWhileKept, requested, answers_in, outcomes_in, readings_in, IsLastReading}
use Rattle.svc_house.specs.Pending.{events_in, rest_of}
use Rattle.svc_house.specs.Standing.{HoldsLastReading}
use Rattle.svc_house.proofs.Lists.{answers-extended, answers_in-requested, readings_in-append, readings_in-requested}

-- An event was taken if its asks are the reply, and these are what the table asks.
pub took-taken : (past : History) (event : Event) (asks : List Ask) → Took asks ≡ reply_to past event
    → takes past event ≡ true
took-taken past event asks = by (takes past event)
  where
    by : (b : Bool) → Took asks ≡ (if b then Took (asks_of past event) else Held) → b ≡ true
    by true says = refl
    by false says = absurd cc

pub took-asks : (past : History) (event : Event) (asks : List Ask) → Took asks ≡ reply_to past event
    → asks ≡ asks_of past event
took-asks past event asks = by (takes past event)
  where
    by : (b : Bool) → Took asks ≡ (if b then Took (asks_of past event) else Held) → asks ≡ asks_of past event
    by true says = cc
    by false says = absurd cc

-- What the world was asked after the event.
pub asked-as : (past : History) (event : Event) (asks made : List Ask) (old new : Option (List Call)) → made ≡ asks
    → Took asks ≡ reply_to past event → ExtendedWhileKept old new (requested made)
    → ExtendedWhileKept old new (requested (asks_of past event))
asked-as past event asks made old new same says =
    subst (λ l. ExtendedWhileKept old new (requested l)) (same ∙ took-asks past event asks says)

-- What was published, followed by what is pending, stays the same.
pub found-same : (events : List Event) (event : Event) (pending : Pending)
    → events_in pending ≡ event ∷ events_in (rest_of pending)
    → (events ++ event ∷ []) ++ events_in (rest_of pending) ≡ events ++ events_in pending
found-same events event pending next =
    append_assoc events (event ∷ []) (events_in (rest_of pending)) ∙ ap (λ l. events ++ l) (sym next)

pub publish_outcomes : (events after : List Event) (asks : List Ask) (old new : Option (List Call)) → after ≡ events
    → ExtendedWhileKept old new (requested asks) → IfSome old (λ calls. outcomes_in events ≡ answers_in calls)
    → IfSome new (λ calls. outcomes_in after ≡ answers_in calls)
publish_outcomes events after asks old new same extended known =
    answers-extended old new (requested asks) (outcomes_in events) (outcomes_in after) extended known
    (ap outcomes_in same ∙ sym (append-nil (outcomes_in events))
    ∙ ap (λ l. outcomes_in events ++ l) (sym (answers_in-requested asks)))

-- What stays pending is taken after the event.
left_taken : (opening : State) (events : List Event) (event : Event) (pending : Pending)
    → events_in pending ≡ event ∷ events_in (rest_of pending)
    → AreTaken (followed_by (Opened opening) events) (events_in pending)
    → AreTaken (followed_by (Opened opening) (events ++ event ∷ [])) (events_in (rest_of pending))
left_taken opening events event pending next taken =
    let past = followed_by (Opened opening) events in
    let all : AreTaken past (event ∷ events_in (rest_of pending)) =
    subst (λ (l : List Event). AreTaken past l) next taken in
    subst (λ (h : History). AreTaken h (events_in (rest_of pending)))
    (sym (followed_by-append (Opened opening) events (event ∷ []))) all.2

pub publish_ready : (opening other : State) (events after : List Event) (event : Event) (pending rest : Pending)
    → other ≡ opening
    → after ≡ events ++ event ∷ [] → rest ≡ rest_of pending → events_in pending ≡ event ∷ events_in (rest_of pending)
    → AreTaken (followed_by (Opened opening) events) (events_in pending)
    → AreTaken (followed_by (Opened other) after) (events_in rest)
publish_ready opening other events after event pending rest same more is next taken =
    subst (λ (t : State × List Event × Pending). AreTaken (followed_by (Opened t.0) t.1) (events_in t.2))
    (λ i. (sym same i, sym more i, sym is i)) (left_taken opening events event pending next taken)

-- Nothing that stays pending is a clock reading.
pub rest_reading : (pending : Pending) (calls : Option (List Call)) → HoldsLastReading (rest_of pending) calls
rest_reading Empty calls = tt
rest_reading (One event) calls = tt
rest_reading (ByteThenDeath byte label) None = tt
rest_reading (ByteThenDeath byte label) (Some calls) = tt

same_readings : (event : Event) (old new : List Call) → readings_in new ≡ readings_in old → IsLastReading event old
    → IsLastReading event new
same_readings (Clock label) old new same last = (last.0, same ∙ last.1)
same_readings (Byte byte) old new same last = tt
same_readings (Started pid label) old new same last = tt
same_readings (StartFailed label) old new same last = tt
same_readings (Death label) old new same last = tt

published_reading : (event : Event) (asks : List Ask) (old new : Option (List Call))
    → ExtendedWhileKept old new (requested asks)
    → IfSome old (IsLastReading event) → IfSome new (IsLastReading event)
published_reading event asks old None extended known = tt
published_reading event asks None (Some new) extended known = absurd extended
published_reading event asks (Some old) (Some new) extended known =
    same_readings event old new
    (ap readings_in extended ∙ readings_in-append old (requested asks)
    ∙ ap (λ l. readings_in old ++ l) (readings_in-requested asks) ∙ append-nil (readings_in old)) known

-- two equal lists have the same first item
first-same : (a b : Event) (xs ys : List Event) → ◌≡◌ {A = List Event} (a ∷ xs) (b ∷ ys) → a ≡ b
first-same a b xs ys e = cc (e)

none-first : (a : Event) (xs : List Event) → ◌≡◌ {A = List Event} [] (a ∷ xs) → ⊥
none-first a xs e = grind (arith, e)

byte_reading : (byte : ℕ) (calls : Option (List Call)) → IfSome calls (IsLastReading (Byte byte))
byte_reading byte None = tt
byte_reading byte (Some calls) = tt

pub publish_reading : (pending : Pending) (event : Event) (asks : List Ask) (old new : Option (List Call))
    → events_in pending ≡ event ∷ events_in (rest_of pending) → ExtendedWhileKept old new (requested asks)
    → HoldsLastReading pending old
    → IfSome new (IsLastReading event)
publish_reading Empty event asks old new next extended known = absurd (none-first event [] next)
publish_reading (One one) event asks old new next extended known =
    published_reading event asks old new extended
    (subst (λ (e : Event). IfSome old (IsLastReading e)) (first-same one event [] [] next) known)
publish_reading (ByteThenDeath byte label) event asks old new next extended known =
    subst (λ (e : Event). IfSome new (IsLastReading e))
    (first-same (Byte byte) event (Death label ∷ []) (Death label ∷ []) next) (byte_reading byte new)
