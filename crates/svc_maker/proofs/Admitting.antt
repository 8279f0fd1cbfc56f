-- Parts that are admitted, one after the other.
use Rattle.std.proofs.Common.{◌≡◌, ℕ, zero, suc, ◌<◌, ◌≤◌, List, [], ◌∷◌, length, Option, refl, sym, subst, ap}
use Rattle.std.proofs.Common.{arith, slice_index_or, slice_set, ◌++◌, ◌∙◌, take, drop, Bool, true}
use Rattle.std.proofs.lemmas.Grind.{flat_map-append}
use Rattle.std.proofs.lemmas.List.{take-append-drop}
use Rattle.std.specs.Prelude.{MatchBool}
use mathlib.Core.List.{IsPrefix}
use Rattle.svc_host.specs.declared.host.Unmade.{Unmade}
use Rattle.svc_maker.specs.Admission.{Admits, AdmitsEach, Asks, refusal, refusals}
use Rattle.svc_maker.specs.Calls.{Call}
use Rattle.svc_maker.specs.Making.{KeptPart}

-- It was tried to admit the first of these parts, this many.
abbrev pub AdmitsFirst : ℕ → (old new : List KeptPart) (calls calls_now : Option (List Call)) → Type 0
AdmitsFirst zero old new calls calls_now = (new ≡ old) × (calls_now ≡ calls)
AdmitsFirst (suc count) [] new calls calls_now = (new ≡ []) × (calls_now ≡ calls)
AdmitsFirst (suc count) (kept ∷ old) [] calls calls_now = ⊥
AdmitsFirst (suc count) (kept ∷ old) (now ∷ new) calls calls_now =
    (middle : Option (List Call)) × Admits kept now calls middle × AdmitsFirst count old new middle calls_now

pub as-many : (count : ℕ) (old new : List KeptPart) (calls calls_now : Option (List Call))
    → AdmitsFirst count old new calls calls_now → length new ≡ length old
as-many zero old new calls calls_now first = ap length first.0
as-many (suc count) [] new calls calls_now first = ap length first.0
as-many (suc count) (kept ∷ old) [] calls calls_now first = absurd first
as-many (suc count) (kept ∷ old) (now ∷ new) calls calls_now (middle, admitted, first) =
    ap suc (as-many count old new middle calls_now first)

-- the next one
pub admits-next : (count : ℕ) (old new : List KeptPart) (calls calls_now calls_next : Option (List Call))
    (d next : KeptPart) → count < length old → AdmitsFirst count old new calls calls_now
    → Admits (slice_index_or new count d) next calls_now calls_next
    → AdmitsFirst (suc count) old (slice_set new count next) calls calls_next
admits-next count [] new calls calls_now calls_next d next less first admitted = absurd (omega (arith, less))
admits-next zero (kept ∷ old) new calls calls_now calls_next d next less first admitted =
    subst (λ (l : List KeptPart). AdmitsFirst 1 (kept ∷ old) (slice_set l 0 next) calls calls_next) (sym first.0) (
      calls_next,
      subst (λ (l : List KeptPart). Admits (slice_index_or l 0 d) next calls calls_next) first.0
          (subst (λ (c : Option (List Call)). Admits (slice_index_or new 0 d) next c calls_next) first.1 admitted),
      (refl, refl),
    )
admits-next (suc count) (kept ∷ old) [] calls calls_now calls_next d next less first admitted = absurd first
admits-next (suc count) (kept ∷ old) (now ∷ new) calls calls_now calls_next d next less (then, one, first) admitted = (
  then,
  one,
  admits-next count old new then calls_now calls_next d next (omega (arith, less)) first admitted,
)

-- all of them
pub admits-each : (count : ℕ) (old new : List KeptPart) (calls calls_now : Option (List Call)) → length old ≤ count
    → AdmitsFirst count old new calls calls_now → AdmitsEach old new calls calls_now
admits-each zero [] new calls calls_now within first =
    subst (λ (l : List KeptPart). AdmitsEach [] l calls calls_now) (sym first.0) first.1
admits-each zero (kept ∷ old) new calls calls_now within first = absurd (omega (arith, within))
admits-each (suc count) [] new calls calls_now within first =
    subst (λ (l : List KeptPart). AdmitsEach [] l calls calls_now) (sym first.0) first.1
admits-each (suc count) (kept ∷ old) [] calls calls_now within first = first
admits-each (suc count) (kept ∷ old) (now ∷ new) calls calls_now within (middle, one, first) =
    (middle, one, admits-each count old new middle calls_now (omega (arith, within)) first)

-- the refusals of the parts so far
pub so-far : (kept : List KeptPart) (index : ℕ) (all : List Unmade) → all ≡ refusals (take index kept)
    → IsPrefix all (refusals kept)
so-far kept index all is = (
  refusals (drop index kept),
  ap (λ (l : List Unmade). l ++ refusals (drop index kept)) is
      ∙ sym (flat_map-append refusal (take index kept) (drop index kept)) ∙ ap refusals (take-append-drop index kept),
)

-- it was tried to admit one that waits
pub admits-waiting : (old new : KeptPart) (calls calls_now : Option (List Call)) → old.waits ≡ true
    → Asks old new calls calls_now → Admits old new calls calls_now
admits-waiting old new calls calls_now waits asks =
    subst (λ (w : Bool). MatchBool w (Asks old new calls calls_now) ((new ≡ old) × (calls_now ≡ calls))) (sym waits)
    asks
