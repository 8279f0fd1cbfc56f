-- A word that is not `table`.
use Rattle.std.proofs.Common.{◌≡◌, ℕ, ◌<◌, ◌≤◌, Bool, true, false, List, [], ◌∷◌, length, map, get_or, refl, subst, sym}
use Rattle.std.proofs.Common.{arith}
use Rattle.std.specs.Prelude.{bytes_eq, codes, MatchBool}
use Rattle.std.proofs.lemmas.Slice.Eq.{bytes_eq-Decides}
use Rattle.cmd_base.specs.Console.{Console}
use Rattle.cmd_base.specs.Usage.{RefusesWords}
use Rattle.cmd_base.specs.declared.command.Command.TheVariants as command
use Rattle.cmd_sim.specs.Ends.{SimEnds, TableEnds}

differ : (xs ys : List ℕ) → ¬ (xs ≡ ys) → bytes_eq xs ys ≡ false
differ xs ys other = elim (bytes_eq xs ys) as (λ b. bytes_eq xs ys ≡ b → b ≡ false) [
  | true ↦ λ same. absurd (other ((bytes_eq-Decides xs ys).0 same))
  | false ↦ λ _. refl
] refl

pub wrong_word : {W : Type 0} (text : W → List ℕ) (words : List W) (none : W) (status : ℕ) (old new : Console)
    → length words < 2 → 1 ≤ length words
    → ¬ (text (get_or words 0 none) ≡ codes "table") → RefusesWords command.Sim status old new
    → SimEnds (map text words) status old new
wrong_word text [] none status old new few some other refused = absurd (omega (arith, some))
wrong_word text (word ∷ []) none status old new few some other refused =
    subst (λ (b : Bool). MatchBool b (TableEnds status old new) (RefusesWords command.Sim status old new))
    (sym (differ (text word) (codes "table") other)) refused
wrong_word text (word ∷ more ∷ words) none status old new few some other refused = absurd (omega (arith, few))

pub no_words : {W P : Type 0} (text : W → List ℕ) (words : List W) → 1 ≤ length words → map text words ≡ [] → P
no_words text [] some none = absurd (omega (arith, some))
no_words text (word ∷ words) some none = cc none
