-- Letters without each one that comes earlier.
use Rattle.std.proofs.Common.{◌≡◌, refl, ℕ, true, false, List, [], ◌∷◌, ◌++◌, arith}
use Rattle.std.specs.Prelude.{◌==◌, not, if◌then◌else◌, filter}
use Rattle.std.proofs.lemmas.Grind.{common_steps}
use Rattle.std.proofs.lemmas.List.Elements.{filter-append}
use Rattle.std.proofs.lemmas.Cmp.{nat_eq_equiv}
use Rattle.sup_core.specs.History.{is_among}
use Rattle.cmd_svc.specs.Words.{without_earlier}

-- two tests of one number
same_number : (x y z : ℕ) → (z == x) ≡ true → (y == z) ≡ (y == x)
same_number x y z e = grind (arith, nat_eq_equiv.symm, nat_eq_equiv.congr)

-- Whether a letter is among others does not change if another one is taken out.
among_without : (x y : ℕ) (zs : List ℕ) → (y == x) ≡ false
    → is_among (filter (λ other. not (other == x)) zs) y ≡ is_among zs y
among_without x y [] apart = refl
among_without x y (z ∷ zs) apart = grind (arith, common_steps, same_number x y z, among_without x y zs apart)

-- It has the same letters.
pub among-without_earlier : (xs : List ℕ) (y : ℕ) → is_among (without_earlier xs) y ≡ is_among xs y
among-without_earlier [] y = refl
among-without_earlier (x ∷ xs) y =
    grind (arith, common_steps, among_without x y (without_earlier xs), among-without_earlier xs y)

-- One more letter is added at the end, unless it is already there.
pub without_earlier-push : (xs : List ℕ) (y : ℕ)
    → without_earlier (xs ++ y ∷ []) ≡ (if is_among xs y then without_earlier xs else without_earlier xs ++ y ∷ [])
without_earlier-push [] y = refl
without_earlier-push (x ∷ xs) y =
    grind (
      arith,
      common_steps,
      filter-append (λ other. not (other == x)) (without_earlier xs) (y ∷ []),
      without_earlier-push xs y,
    )

-- To add a letter to the letters without repetitions is the same as to add it to the letters themselves.
pub added : (xs : List ℕ) (y : ℕ)
    → (if is_among (without_earlier xs) y then without_earlier xs else without_earlier xs ++ y ∷ [])
    ≡ without_earlier (xs ++ y ∷ [])
added xs y = grind (arith, among-without_earlier xs y, without_earlier-push xs y)
