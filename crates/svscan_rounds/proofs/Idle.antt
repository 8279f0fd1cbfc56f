-- A round is idle only if nothing has changed.
use Rattle.std.proofs.Common.{◌≡◌, ℕ, Bool, true, false, not, ◌&&◌, List, [], ◌∷◌, Option, Some, None}
use Rattle.std.proofs.Common.{refl, sym, ap, ◌∙◌}
use Rattle.std.proofs.lemmas.Bool.{eqb-true}
use Rattle.svscan_rounds.specs.Quiet.{Step, Read, Looked, Listed, Scanned, quiet_after, activity_after}
use Rattle.svscan_rounds.specs.Quiet.{IdleOnlyUnchanged, NothingChanged, WasWhole, is_just, is_quiet}

activity-is : (steps : List Step) → (quiet_after steps).activity ≡ activity_after steps
activity-is [] = refl
activity-is (Read activity ∷ earlier) = refl
activity-is (Looked has_names any_waits ∷ earlier) = activity-is earlier
activity-is (Listed needs_rows ∷ earlier) = activity-is earlier
activity-is (Scanned is_refused ∷ earlier) = activity-is earlier

abbrev held : Option ℕ → ℕ
held None = 0
held (Some number) = number

was-whole : (steps : List Step) (activity : ℕ) → (quiet_after steps).whole_at ≡ Some activity → WasWhole activity steps
was-whole [] activity is = absurd cc
was-whole (Read later ∷ earlier) activity is = was-whole earlier activity is
was-whole (Looked true any_waits ∷ earlier) activity is = (refl, was-whole earlier activity is)
was-whole (Looked false any_waits ∷ earlier) activity is = absurd cc
was-whole (Listed true ∷ earlier) activity is = absurd cc
was-whole (Listed false ∷ earlier) activity is = sym (activity-is earlier) ∙ ap held is
was-whole (Scanned true ∷ earlier) activity is = absurd cc
was-whole (Scanned false ∷ earlier) activity is = (refl, was-whole earlier activity is)

just-is : (at : Option ℕ) (activity : ℕ) → is_just at activity ≡ true → at ≡ Some activity
just-is None activity is = absurd cc
just-is (Some at) activity is = ap Some (eqb-true at activity is)

all_true : (quiet has_names waits : Bool) → (quiet && has_names && not waits) ≡ true
    → (quiet ≡ true) × (has_names ≡ true) × (waits ≡ false)
all_true true true false is = (refl, refl, refl)
all_true true true true is = absurd cc
all_true true false waits is = absurd cc
all_true false has_names waits is = absurd cc

unchanged : (has_names any_waits : Bool) (earlier : List Step)
    → (is_quiet (quiet_after earlier) && has_names && not any_waits) ≡ true
    → NothingChanged (Looked has_names any_waits ∷ earlier)
unchanged has_names any_waits earlier is =
    let each = all_true (is_quiet (quiet_after earlier)) has_names any_waits is in
    let quiet = quiet_after earlier in (
      each.1,
      each.2,
      was-whole earlier (activity_after earlier)
          (just-is quiet.whole_at quiet.activity each.0 ∙ ap Some (activity-is earlier)),
    )

pub idle-only-unchanged : IdleOnlyUnchanged
idle-only-unchanged [] is = absurd cc
idle-only-unchanged (Read activity ∷ earlier) is = absurd cc
idle-only-unchanged (Looked has_names any_waits ∷ earlier) is = unchanged has_names any_waits earlier is
idle-only-unchanged (Listed needs_rows ∷ earlier) is = absurd cc
idle-only-unchanged (Scanned is_refused ∷ earlier) is = absurd cc
