-- Lists of events and calls, one after the other.
use Rattle.std.proofs.Common.{◌≡◌, List, [], ◌∷◌, ◌++◌, Option, Some, None, IfSome, refl, sym, ap, ◌∙◌}
use Rattle.sup_core.specs.declared.asks.Ask.{Ask}
use Rattle.sup_core.specs.declared.event.Event.{Event}
use Rattle.sup_core.specs.declared.event.Event.TheVariants.{Byte, Started, StartFailed, Death, Clock}
use Rattle.svc_house.specs.declared.call.Call.{Call}
use Rattle.svc_house.specs.declared.call.Call.TheVariants.{Requested, Answered, NoStart, NoDeath, Read}
use Rattle.svc_house.specs.Calls.{ExtendedWhileKept, requested, answers_in, bytes_in, outcomes_in, readings_in}

pub bytes_in-append : (xs ys : List Event) → bytes_in (xs ++ ys) ≡ bytes_in xs ++ bytes_in ys
bytes_in-append [] ys = refl
bytes_in-append (Byte byte ∷ xs) ys = ap (λ l. byte ∷ l) (bytes_in-append xs ys)
bytes_in-append (Started pid label ∷ xs) ys = bytes_in-append xs ys
bytes_in-append (StartFailed label ∷ xs) ys = bytes_in-append xs ys
bytes_in-append (Death label ∷ xs) ys = bytes_in-append xs ys
bytes_in-append (Clock label ∷ xs) ys = bytes_in-append xs ys

pub outcomes_in-append : (xs ys : List Event) → outcomes_in (xs ++ ys) ≡ outcomes_in xs ++ outcomes_in ys
outcomes_in-append [] ys = refl
outcomes_in-append (Byte byte ∷ xs) ys = outcomes_in-append xs ys
outcomes_in-append (Started pid label ∷ xs) ys = ap (λ l. Started pid label ∷ l) (outcomes_in-append xs ys)
outcomes_in-append (StartFailed label ∷ xs) ys = ap (λ l. StartFailed label ∷ l) (outcomes_in-append xs ys)
outcomes_in-append (Death label ∷ xs) ys = ap (λ l. Death label ∷ l) (outcomes_in-append xs ys)
outcomes_in-append (Clock label ∷ xs) ys = outcomes_in-append xs ys

pub answers_in-append : (xs ys : List Call) → answers_in (xs ++ ys) ≡ answers_in xs ++ answers_in ys
answers_in-append [] ys = refl
answers_in-append (Requested ask ∷ xs) ys = answers_in-append xs ys
answers_in-append (Answered event ∷ xs) ys = ap (λ l. event ∷ l) (answers_in-append xs ys)
answers_in-append (NoStart ∷ xs) ys = answers_in-append xs ys
answers_in-append (NoDeath ∷ xs) ys = answers_in-append xs ys
answers_in-append (Read label ∷ xs) ys = answers_in-append xs ys

pub answers_in-requested : (asks : List Ask) → answers_in (requested asks) ≡ []
answers_in-requested [] = refl
answers_in-requested (ask ∷ asks) = answers_in-requested asks

pub readings_in-append : (xs ys : List Call) → readings_in (xs ++ ys) ≡ readings_in xs ++ readings_in ys
readings_in-append [] ys = refl
readings_in-append (Requested ask ∷ xs) ys = readings_in-append xs ys
readings_in-append (Answered event ∷ xs) ys = readings_in-append xs ys
readings_in-append (NoStart ∷ xs) ys = readings_in-append xs ys
readings_in-append (NoDeath ∷ xs) ys = readings_in-append xs ys
readings_in-append (Read label ∷ xs) ys = ap (λ l. label ∷ l) (readings_in-append xs ys)

pub readings_in-requested : (asks : List Ask) → readings_in (requested asks) ≡ []
readings_in-requested [] = refl
readings_in-requested (ask ∷ asks) = readings_in-requested asks

-- What is known of the world's results stays true after more calls.
pub answers-extended : (old new : Option (List Call)) (more : List Call) (events others : List Event)
    → ExtendedWhileKept old new more
    → IfSome old (λ calls. events ≡ answers_in calls) → others ≡ events ++ answers_in more
    → IfSome new (λ calls. others ≡ answers_in calls)
answers-extended old None more events others extended known same = tt
answers-extended None (Some new) more events others extended known same = absurd extended
answers-extended (Some old) (Some new) more events others extended known same =
    same ∙ ap (λ l. l ++ answers_in more) known ∙ sym (answers_in-append old more) ∙ ap answers_in (sym extended)

-- a world that has returned nothing
pub answered-none : (calls : Option (List Call)) → IfSome calls (λ calls. answers_in calls ≡ [])
    → IfSome calls (λ calls. [] ≡ answers_in calls)
answered-none None none = tt
answered-none (Some calls) none = sym none
