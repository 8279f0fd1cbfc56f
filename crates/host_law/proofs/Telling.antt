-- Which of a part's events a suite takes.
use Rattle.std.proofs.Common.{◌≡◌, Bool, true, false, List, [], ◌∷◌, ◌++◌, refl, sym, subst, ap, ◌∙◌}
use Rattle.std.proofs.Common.{if◌then◌else◌}
use Rattle.sup_core.specs.declared.event.Event.{Event}
use Rattle.sup_core.specs.State.{State, is_gone}
use Rattle.sup_core.specs.History.{History, Opened, Then, phase_of}
use Rattle.sup_core.specs.Rules.{IsEvent, takes}
use Rattle.sup_core.specs.Runs.{AreTaken, followed_by}
use Rattle.sup_core.proofs.Laws.{takes-gone}
use Rattle.host_law.specs.Whole.{before_end, told}
use Rattle.host_law.proofs.Publishing.{is_gone-gone, nothing_more}

-- A history that takes an event is not gone.
pub not_gone : (past : History) (event : Event) → takes past event ≡ true → is_gone (phase_of past) ≡ false
not_gone past event taken =
    elim (is_gone (phase_of past)) as (λ b. is_gone (phase_of past) ≡ b → b ≡ false) [
      | true ↦ λ gone.
          let held : takes past event ≡ false = takes-gone past event (is_gone-gone (phase_of past) gone) in
          absurd (cc (held, taken))
      | false ↦ λ here. refl
    ] refl

-- gone once, gone at the end
pub gone_there : (past : History) (events : List Event) → is_gone (phase_of past) ≡ true → AreTaken past events
    → is_gone (phase_of (followed_by past events)) ≡ true
gone_there past events gone taken =
    ap (λ (es : List Event). is_gone (phase_of (followed_by past es))) (nothing_more past events gone taken) ∙ gone

pub whole_before : (past : History) (events : List Event) → AreTaken past events
    → is_gone (phase_of (followed_by past events)) ≡ false → before_end past events ≡ events
whole_before past [] taken here = refl
whole_before past (event ∷ events) taken here =
    elim (is_gone (phase_of (Then past event))) as (λ b. is_gone (phase_of (Then past event)) ≡ b
    → (if b then [] else event ∷ before_end (Then past event) events) ≡ event ∷ events) [
      | true ↦ λ gone.
          let end = gone_there (Then past event) events gone taken.2 in
          absurd (cc (end, here))
      | false ↦ λ gone. ap (λ (es : List Event). event ∷ es) (whole_before (Then past event) events taken.2 here)
    ] refl

pushed : (b : Bool) (first : Event) (xs ys : List Event) → first ∷ (if b then xs else ys)
    ≡ (if b then first ∷ xs else first ∷ ys)
pushed true first xs ys = refl
pushed false first xs ys = refl

-- One more event is taken, unless the machine is gone after it.
pub one_more : (past : History) (events : List Event) (event : Event) → AreTaken past events
    → is_gone (phase_of (followed_by past events)) ≡ false
    → before_end past (events ++ event ∷ [])
    ≡ (if is_gone (phase_of (Then (followed_by past events) event)) then events else events ++ event ∷ [])
one_more past [] event taken here = refl
one_more past (first ∷ events) event taken here =
    elim (is_gone (phase_of (Then past first))) as (λ b. is_gone (phase_of (Then past first)) ≡ b
    → (if b then [] else first ∷ before_end (Then past first) (events ++ event ∷ []))
    ≡ (if is_gone (phase_of (Then (followed_by (Then past first) events) event)) then first ∷ events
    else first ∷ (events ++ event ∷ []))) [
      | true ↦ λ gone.
          let end = gone_there (Then past first) events gone taken.2 in
          absurd (cc (end, here))
      | false ↦ λ gone. ap (λ (es : List Event). first ∷ es) (one_more (Then past first) events event taken.2 here)
          ∙ pushed (is_gone (phase_of (Then (followed_by (Then past first) events) event))) first events
          (events ++ event ∷ [])
    ] refl

-- The events of a machine that is gone: those before the last one, and the last one.
pub record Last (past : History) (events : List Event) : Type 0 where
  pub last : Event
  pub whole : events ≡ before_end past events ++ last ∷ []
  pub is : IsEvent last
  pub taken : takes (followed_by past (before_end past events)) last ≡ true

pub last_of : (past : History) (events : List Event) → AreTaken past events → is_gone (phase_of past) ≡ false
    → is_gone (phase_of (followed_by past events)) ≡ true → Last past events
last_of past [] taken here gone = absurd (cc (here, gone))
last_of past (event ∷ events) taken here gone =
    elim (is_gone (phase_of (Then past event))) as (λ b. is_gone (phase_of (Then past event)) ≡ b
    → Last past (event ∷ events)) [
      | true ↦ λ end.
          let none = nothing_more (Then past event) events end taken.2 in
          let front : before_end past (event ∷ events) ≡ [] = rw end refl in
          record {
            last = event;
            whole = ap (λ (es : List Event). event ∷ es) none ∙ sym (ap (λ (es : List Event). es ++ event ∷ []) front);
            is = taken.0;
            taken = ap (λ (es : List Event). takes (followed_by past es) event) front ∙ taken.1;
          }
      | false ↦ λ end.
          let rest = last_of (Then past event) events taken.2 end gone in
          let front : before_end past (event ∷ events) ≡ event ∷ before_end (Then past event) events = rw end refl in
          record {
            last = rest.last;
            whole = ap (λ (es : List Event). event ∷ es) rest.whole
                ∙ sym (ap (λ (es : List Event). es ++ rest.last ∷ []) front);
            is = rest.is;
            taken = ap (λ (es : List Event). takes (followed_by past es) rest.last) front ∙ rest.taken;
          }
    ] refl

-- If a part is not gone, all its events are taken.
pub all_told : (machine : State) (known : List Event) (has_ended : Bool) → AreTaken (Opened machine) known
    → is_gone (phase_of (followed_by (Opened machine) known)) ≡ false → told machine known has_ended ≡ known
all_told machine known true taken here = refl
all_told machine known false taken here = whole_before (Opened machine) known taken here
