-- The test for a possible state of a service agrees with the fact.
use Rattle.std.proofs.Common.{◌≡◌, ℕ, ◌<◌, ◌&&◌, ◌==◌, nat_lt, Bool, true, false, refl, arith}
use Rattle.std.specs.Prelude.{◌≢◌, ◌↔◌, not}
use Rattle.std.specs.Cmp.Derive.{both_true}
use Rattle.std.proofs.lemmas.Bool.{and_parts, eqb-true}
use Rattle.tai_status.specs.Record.{Status}
use Rattle.tai_status.specs.Full.{StandsIn, is_want, stands_in}
use Rattle.tai_status.specs.declared.phase.Phase.{Phase}
use Rattle.tai_status.specs.declared.phase.Phase.TheVariants as phase
use Rattle.tai_status.specs.declared.record.Want.{Want}
use Rattle.tai_status.specs.declared.record.Want.TheVariants as want

not_want : (a b : Want) → (a ≢ b) ↔ (not (is_want a b) ≡ true)
not_want want.Up want.Up = (λ h. absurd (h refl), λ h e. cc h)
not_want want.Up want.Down = (λ h. refl, λ h e. cc e)
not_want want.Up want.Once = (λ h. refl, λ h e. cc e)
not_want want.Down want.Up = (λ h. refl, λ h e. cc e)
not_want want.Down want.Down = (λ h. absurd (h refl), λ h e. cc h)
not_want want.Down want.Once = (λ h. refl, λ h e. cc e)
not_want want.Once want.Up = (λ h. refl, λ h e. cc e)
not_want want.Once want.Down = (λ h. refl, λ h e. cc e)
not_want want.Once want.Once = (λ h. absurd (h refl), λ h e. cc h)

no : (b : Bool) → (b ≡ false) ↔ (not b ≡ true)
no true = (λ h. cc h, λ h. cc h)
no false = (λ h. refl, λ h. refl)

yes : (b : Bool) → (b ≡ true) ↔ (b ≡ true)
yes b = (λ h. h, λ h. h)

zero_pid : (pid : ℕ) → (pid ≡ 0) ↔ ((pid == 0) ≡ true)
zero_pid pid = (λ h. grind (arith, h), λ h. eqb-true pid 0 h)

pub some_pid : (pid : ℕ) → (0 < pid) ↔ (nat_lt 0 pid ≡ true)
some_pid pid = (λ h. grind (arith, h), λ h. grind (arith, h))

-- facts that are each decided by a test

pub two : {A B : Type 0} (a b : Bool) → A ↔ (a ≡ true) → B ↔ (b ≡ true) → (A × B) ↔ ((a && b) ≡ true)
two a b p q = (λ h. both_true (p.0 h.0) (q.0 h.1), λ h. let parts = and_parts a b h in (p.1 parts.0, q.1 parts.1))

three : {A B C : Type 0} (a b c : Bool) → A ↔ (a ≡ true) → B ↔ (b ≡ true) → C ↔ (c ≡ true)
    → (A × B × C) ↔ ((a && b && c) ≡ true)
three a b c p q r = (
  λ h. both_true ((two a b p q).0 (h.0, h.1)) (r.0 h.2),
  λ h. let parts = and_parts (a && b) c h in let front = (two a b p q).1 parts.0 in (front.0, front.1, r.1 parts.1),
)

four : {A B C D : Type 0} (a b c d : Bool) → A ↔ (a ≡ true) → B ↔ (b ≡ true) → C ↔ (c ≡ true) → D ↔ (d ≡ true)
    → (A × B × C × D) ↔ ((a && b && c && d) ≡ true)
four a b c d p q r s = (
  λ h. both_true ((three a b c p q r).0 (h.0, h.1, h.2)) (s.0 h.3),
  λ h. let parts = and_parts (a && b && c) d h in let front = (three a b c p q r).1 parts.0 in
      (front.0, front.1, front.2, s.1 parts.1),
)

-- the test decides whether a service can be in a state
pub stands_in-decides : (phase : Phase) (s : Status) (exiting : Bool)
    → StandsIn phase s exiting ↔ (stands_in phase s exiting ≡ true)
stands_in-decides phase.Starting s exiting = three _ _ _ (zero_pid s.pid) (not_want s.want want.Down) (no exiting)
stands_in-decides phase.Settling s exiting =
    four _ _ _ _ (some_pid s.pid) (no s.paused) (not_want s.want want.Down) (no exiting)
stands_in-decides phase.Resting s exiting = three _ _ _ (zero_pid s.pid) (not_want s.want want.Down) (no exiting)
stands_in-decides phase.Up s exiting = some_pid s.pid
stands_in-decides phase.Down s exiting = three _ _ _ (zero_pid s.pid) (not_want s.want want.Up) (no exiting)
stands_in-decides phase.Gone s exiting = two _ _ (zero_pid s.pid) (yes exiting)
