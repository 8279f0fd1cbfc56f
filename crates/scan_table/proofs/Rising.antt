-- Rising names are all different.
use Rattle.std.proofs.Common.{◌≡◌, ℕ, ◌+◌, ◌-◌, ◌<◌, ◌≤◌, true, false, List, length, drop, slice_index_or, nat_le, sym}
use Rattle.std.proofs.Common.{ap, ◌∙◌, refl, zero, suc, arith}
use Rattle.std.specs.List.{list_any, AllPairs}
use Rattle.std.specs.Ordering.{is_eq}
use Rattle.std.specs.declared.cmp.Ordering.TheVariants.{Less}
use Rattle.std.proofs.lemmas.Cmp.{nat_list_cmp_total, tied_itself}
use Rattle.std.proofs.lemmas.Map.Text.{is_eq-slice_cmp}
use Rattle.std.proofs.lemmas.List.{get_or-drop, length-drop}
use Rattle.std.proofs.lemmas.List.Folds.{list_any_at, list_any_none}
use Rattle.scan_table.specs.Slots.{Row, is_name, name_order}
use Rattle.scan_table.specs.Scan.{AreRising, IsBelow}

further : (rows : List Row) → AreRising rows → (n i j : ℕ) (d : Row) → j ≡ i + 1 + n → j < length rows →
    IsBelow (slice_index_or rows i d) (slice_index_or rows j d)
further rows h zero i j d e b =
    let e' : j ≡ i + 1 = omega arith in
    rw e' (h i d (omega arith))
further rows h (suc n) i j d e b =
    let e' : j ≡ (i + 1 + n) + 1 = omega arith in
    rw e' (nat_list_cmp_total.trans (slice_index_or rows i d).name (slice_index_or rows (i + 1 + n) d).name
    (slice_index_or rows (i + 1 + n + 1) d).name
    (further rows h n i (i + 1 + n) d refl (omega arith)) (h (i + 1 + n) d (omega arith)))

-- each name is below all later ones
pub rising-pairs : (rows : List Row) → AreRising rows → AllPairs IsBelow rows
rising-pairs rows h i j d below within = further rows h (j - (i + 1)) i j d (omega arith) within

-- a name below another is not that name, in either order
pub below-not : (a b : List ℕ) → name_order a b ≡ Less → is_name a b ≡ false
below-not a b less = sym (is_eq-slice_cmp a b) ∙ ap is_eq less

pub is_name-same : (a : List ℕ) → is_name a a ≡ true
is_name-same a = sym (is_eq-slice_cmp a a) ∙ ap is_eq (tied_itself nat_list_cmp_total a)

-- whether the row at place k is among those from place r on
pub among-later : (ns : List Row) (r k : ℕ) (x : Row) → AllPairs IsBelow ns → k < length ns →
    ((d : Row) → slice_index_or ns k d ≡ x) →
    list_any (λ other. is_name x.name other.name) (drop r ns) ≡ nat_le r k
among-later ns r k x pairs within here =
    elim (nat_le r k) as (λ b. nat_le r k ≡ b → list_any (λ other. is_name x.name other.name) (drop r ns) ≡ b) [
      | true ↦ λ is.
          let le : r ≤ k = grind (arith) in
          let e : r + (k - r) ≡ k = omega arith in
          let b : k - r < length (drop r ns) = rw (length-drop r ns) (omega arith) in
          let at : slice_index_or (drop r ns) (k - r) x ≡ x = get_or-drop r ns (k - r) x
          ∙ ap (λ n. slice_index_or ns n x) e ∙ here x in
          list_any_at (λ other. is_name x.name other.name) (drop r ns) (k - r) x b
          (ap (λ (y : Row). is_name x.name y.name) at ∙ is_name-same x.name)
      | false ↦ λ is.
          let lt : k < r = grind (arith) in
          list_any_none (λ other. is_name x.name other.name) (drop r ns)
          (λ i d b.
          let b' : i < length ns - r = rw (sym (length-drop r ns)) b in
          let less : IsBelow (slice_index_or ns k d) (slice_index_or ns (r + i) d) =
          pairs k (r + i) d (omega arith) (omega arith) in
          let less' : IsBelow x (slice_index_or ns (r + i) d) = rw (sym (here d)) less in
          ap (λ (y : Row). is_name x.name y.name) (get_or-drop r ns i d)
          ∙ below-not x.name (slice_index_or ns (r + i) d).name less')
    ] refl
