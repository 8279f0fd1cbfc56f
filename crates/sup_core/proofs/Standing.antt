-- The test for a possible state of a machine agrees with the fact.
use Rattle.std.proofs.Common.{◌≡◌, ℕ, ◌<◌, ◌&&◌, ◌==◌, true, Option, Some, None, refl, ap, ◌∙◌, arith}
use Rattle.std.specs.Prelude.{◌↔◌, is_none, IsSomeAnd}
use Rattle.std.specs.Cmp.Derive.{both_true}
use Rattle.std.proofs.lemmas.Bool.{and_parts, eqb-true}
use Rattle.tai_status.specs.Label.{Tai64n, plus_second}
use Rattle.tai_status.specs.Record.{Status}
use Rattle.tai_status.specs.declared.phase.Phase.{Phase}
use Rattle.tai_status.specs.declared.phase.Phase.TheVariants as phase
use Rattle.tai_status.proofs.Standing.{some_pid, stands_in-decides, two}
use Rattle.sup_core.specs.State.{State, WaitsUntil, IsState, is_label, is_second_past, waits_until, is_state}

no_until : (until : Option Tai64n) → (until ≡ None) ↔ (is_none until ≡ true)
no_until (Some label) = (λ h. cc h, λ h. cc h)
no_until None = (λ h. refl, λ h. refl)

same_label : (a b : Tai64n) → (a ≡ b) ↔ (((a.sec == b.sec) && (a.nano == b.nano)) ≡ true)
same_label a b = (
  λ h.
      let sec : a.sec ≡ b.sec = ap (λ (l : Tai64n). l.sec) h in
      let nano : a.nano ≡ b.nano = ap (λ (l : Tai64n). l.nano) h in
      both_true {s = a.sec == b.sec} {t = a.nano == b.nano} (grind (arith, sec)) (grind (arith, nano)),
  λ h.
      let parts = and_parts (a.sec == b.sec) (a.nano == b.nano) h in
      let sec = eqb-true a.sec b.sec parts.0 in
      let nano = eqb-true a.nano b.nano parts.1 in
      ap (λ (n : ℕ). record { sec = n; nano = a.nano }) sec ∙ ap (λ (n : ℕ). record { sec = b.sec; nano = n }) nano,
)

label_until : (label : Tai64n) (until : Option Tai64n) → (until ≡ Some label) ↔ (is_label label until ≡ true)
label_until label (Some until) = (
  λ h. (same_label until label).0 (let e : until ≡ label = cc h in e),
  λ h. ap Some ((same_label until label).1 h),
)
label_until label None = (λ h. cc h, λ h. cc h)

past_until : (until : Option Tai64n) → IsSomeAnd until (λ until. 0 < until.sec) ↔ (is_second_past until ≡ true)
past_until (Some until) = some_pid until.sec
past_until None = (λ h. absurd h, λ h. cc h)

waits_until-decides : (p : Phase) (s : Status) (until : Option Tai64n)
    → WaitsUntil p s until ↔ (waits_until p s until ≡ true)
waits_until-decides phase.Starting s until = no_until until
waits_until-decides phase.Settling s until = label_until (plus_second s.label) until
waits_until-decides phase.Resting s until = past_until until
waits_until-decides phase.Up s until = no_until until
waits_until-decides phase.Down s until = no_until until
waits_until-decides phase.Gone s until = no_until until

-- the test decides whether a machine can be in a state
pub is_state-decides : (s : State) → IsState s ↔ (is_state s ≡ true)
is_state-decides s =
    two _ _ (stands_in-decides s.phase s.status s.exiting) (waits_until-decides s.phase s.status s.until)
