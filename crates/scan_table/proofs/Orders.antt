-- The byte order of names, and what it means for two names.
use Rattle.std.proofs.Common.{◌≡◌, ◌≢◌, ℕ, true, false, List, sym, ap, ◌∙◌, refl, subst}
use Rattle.std.specs.Ordering.{is_eq, ordering_reverse}
use Rattle.std.specs.declared.cmp.Ordering.TheVariants.{Less, Equal, Greater}
use Rattle.std.proofs.lemmas.Cmp.{nat_list_cmp_total, tied_itself}
use Rattle.std.proofs.lemmas.Map.Text.{is_eq-slice_cmp}
use Rattle.std.proofs.lemmas.Slice.Eq.{bytes_eq-Decides}
use Rattle.scan_table.specs.Slots.{is_name, name_order}

-- a name below another is not that name
pub below-differs : (a b : List ℕ) → name_order a b ≡ Less → a ≢ b
below-differs a b less same =
    let e : name_order a a ≡ Less = subst (λ x. name_order a x ≡ Less) (sym same) less in
    let f : Less ≡ Equal = sym e ∙ tied_itself nat_list_cmp_total a in
    cc

-- if a name is above another, the other is below it
pub above-below : (a b : List ℕ) → name_order a b ≡ Greater → name_order b a ≡ Less
above-below a b greater =
    nat_list_cmp_total.antisymm b a ∙ ap ordering_reverse greater

pub equal-same : (a b : List ℕ) → name_order a b ≡ Equal → a ≡ b
equal-same a b equal =
    (bytes_eq-Decides a b).0 (sym (is_eq-slice_cmp a b) ∙ ap is_eq equal)

pub named-same : (a b : List ℕ) → is_name a b ≡ true → a ≡ b
named-same a b is = (bytes_eq-Decides a b).0 is

pub same-named : (a b : List ℕ) → a ≡ b → is_name a b ≡ true
same-named a b same = (bytes_eq-Decides a b).1 same

pub differs-named : (a b : List ℕ) → a ≢ b → is_name a b ≡ false
differs-named a b differs =
    elim (is_name a b) as (λ t. is_name a b ≡ t → t ≡ false) [
      | true ↦ λ is. absurd (differs (named-same a b is))
      | false ↦ λ is. refl
    ] refl
