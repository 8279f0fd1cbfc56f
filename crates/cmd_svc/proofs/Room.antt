-- Known letters, each once, are few.
use Rattle.std.proofs.Common.{◌≡◌, refl, ℕ, ◌<◌, ◌≤◌, true, false, List, [], ◌∷◌, ◌++◌, length, length-append, arith}
use Rattle.std.proofs.Common.{rules}
use Rattle.std.specs.Prelude.{◌==◌}
use Rattle.std.specs.List.{list_all, IsDistinct}
use Rattle.std.proofs.lemmas.Grind.{common_steps}
use Rattle.std.proofs.lemmas.Cmp.{nat_eq_equiv}
use Rattle.std.proofs.lemmas.Map.Keys.{IsDistinct-push}
use Rattle.std.proofs.lemmas.Map.Made.{length-le_from_is_member}
use Rattle.std.proofs.lemmas.List.Folds.{list_all-append}
use Rattle.sup_core.specs.History.{is_among}
use Rattle.sup_core.specs.Rules.{is_letter, letters}
use Rattle.sup_core.specs.declared.table.TheConstants.{LETTER_COUNT}
use Rattle.cmd_svc.specs.Words.{AreKnownOnce}

pub nothing_is_ordered : AreKnownOnce []
unfolding IsDistinct
nothing_is_ordered = record { known = refl; once = search rules }

-- what equals a known letter is known
known_where_equal : (x q : ℕ) → (q == x) ≡ true → is_letter x ≡ true → is_letter q ≡ true
known_where_equal x q same known = grind (arith, nat_eq_equiv.symm, nat_eq_equiv.congr)

known_among : (xs : List ℕ) (q : ℕ) → list_all is_letter xs ≡ true → is_among xs q ≡ true → is_letter q ≡ true
known_among [] q all here = search rules
known_among (x ∷ xs) q all here = grind (arith, common_steps, known_where_equal x q, known_among xs q)

-- One more known letter that is not there yet.
pub ordered_push : (bytes : List ℕ) (letter : ℕ) → AreKnownOnce bytes → is_letter letter ≡ true
    → is_among bytes letter ≡ false
    → AreKnownOnce (bytes ++ letter ∷ [])
ordered_push bytes letter ordered known apart = record {
  known = grind (arith, common_steps, list_all-append is_letter bytes (letter ∷ []), ordered.known);
  once = IsDistinct-push nat_eq_equiv bytes letter ordered.once apart;
}

-- Ordered bytes are no more than the known letters.
pub few_ordered : (bytes : List ℕ) → AreKnownOnce bytes → length bytes ≤ LETTER_COUNT
few_ordered bytes ordered =
    length-le_from_is_member nat_eq_equiv bytes letters ordered.once
    (λ q here. known_among bytes q ordered.known here)

-- Therefore there is room for one that is not there yet.
pub room : (bytes : List ℕ) (letter : ℕ) → AreKnownOnce bytes → is_letter letter ≡ true → is_among bytes letter ≡ false
    → length bytes < LETTER_COUNT
room bytes letter ordered known apart =
    omega (
      arith,
      few_ordered (bytes ++ letter ∷ []) (ordered_push bytes letter ordered known apart),
      length-append bytes (letter ∷ []),
    )
