-- Names in byte order, and the place of one more.
use Rattle.std.proofs.Common.{◌≡◌, ℕ, suc, zero, ◌+◌, ◌<◌, ◌≤◌, Bool, true, false, List, [], ◌∷◌, ◌++◌, length, take}
use Rattle.std.proofs.Common.{drop, get_or, refl, sym, ap, ◌∙◌, arith, subst}
use Rattle.std.proofs.lemmas.Cmp.{nat_list_cmp_total}
use Rattle.std.proofs.lemmas.List.Sorted.{ranks_by, sorted_far}
use Rattle.std.specs.Cmp.{IsStrictWeakOrder}
use Rattle.std.specs.Cmp.Lexicographic.{slice_cmp}
use Rattle.std.specs.Ordering.{is_lt, nat_cmp}
use Rattle.std.specs.Prelude.{if◌then◌else◌}
use Rattle.std.specs.List.{insert}
use Rattle.cmd_multilog.specs.Names.{with_name, AreInOrder}

-- whether a name is smaller than another
abbrev is_below : List ℕ → List ℕ → Bool
is_below first second = is_lt (slice_cmp nat_cmp first second)

byte_order : IsStrictWeakOrder is_below
byte_order = ranks_by nat_list_cmp_total (λ (name : List ℕ). name)

-- The first of these names, if there is one, is not smaller than a name.
abbrev StartsAbove : List ℕ → List (List ℕ) → Type 0
StartsAbove name names = (d : List ℕ) → 0 < length names → is_below (get_or names 0 d) name ≡ false

-- One more comes before the others.

one_above : (first : List ℕ) (names : List (List ℕ)) → StartsAbove first names → AreInOrder names
    → (k : ℕ) (d : List ℕ) → k + 1 < length (first ∷ names)
    → is_below (get_or (first ∷ names) (k + 1) d) (get_or (first ∷ names) k d) ≡ false
one_above first names above order zero d within = above d (omega (arith, within))
one_above first names above order (suc k) d within =
    let e : suc (k + 1) ≡ suc k + 1 = omega arith in
    subst (λ (n : ℕ). is_below (get_or (first ∷ names) n d) (get_or names k d) ≡ false) e
    (order k d (omega arith) (omega (arith, within)))

ordered-cons : (first : List ℕ) (names : List (List ℕ)) → StartsAbove first names → AreInOrder names
    → AreInOrder (first ∷ names)
ordered-cons first names above order = λ k d low within. one_above first names above order k d within

starts_above : (first : List ℕ) (names : List (List ℕ)) → AreInOrder (first ∷ names) → StartsAbove first names
starts_above first names order = λ d some. order 0 d (omega arith) (omega (arith, some))

-- The first is removed.
ordered-rest : (first : List ℕ) (names : List (List ℕ)) → AreInOrder (first ∷ names) → AreInOrder names
ordered-rest first names order = λ k d low within.
    let e : suc k + 1 ≡ suc (k + 1) = omega arith in
    subst (λ (n : ℕ). is_below (get_or (first ∷ names) n d) (get_or names k d) ≡ false) e
    (order (suc k) d (omega arith) (omega (arith, within)))

-- One more is inserted at its place.

with_name-above : (name first : List ℕ) (names : List (List ℕ)) → is_below name first ≡ false → StartsAbove first names
    → StartsAbove first (with_name name names)
with_name-above name first [] not above = λ d some. not
with_name-above name first (second ∷ names) not above = λ d some.
    elim (is_below second name) as (λ b.
    is_below (get_or (if b then second ∷ with_name name names else name ∷ second ∷ names) 0 d) first ≡ false) [
      | true ↦ above d (omega arith)
      | false ↦ not
    ]

pub ordered-with_name : (name : List ℕ) (names : List (List ℕ)) → AreInOrder names → AreInOrder (with_name name names)
ordered-with_name name [] order = ordered-cons name [] (λ d some. absurd (omega (arith, some))) order
ordered-with_name name (first ∷ names) order =
    elim (is_below first name) as (λ b. is_below first name ≡ b
    → AreInOrder (if b then first ∷ with_name name names else name ∷ first ∷ names)) [
      | true ↦ λ below. ordered-cons first (with_name name names)
          (with_name-above name first names (byte_order.one_way first name below) (starts_above first names order))
          (ordered-with_name name names (ordered-rest first names order))
      | false ↦ λ not. ordered-cons name (first ∷ names) (λ d some. not) order
    ] refl

-- Its place

-- all up to a smaller name are smaller
all_below : (name : List ℕ) (names : List (List ℕ)) (last : ℕ) (d : List ℕ) → AreInOrder names → last < length names
    → is_below (get_or names last d) name ≡ true → (k : ℕ) → k ≤ last → is_below (get_or names k d) name ≡ true
all_below name names last d order within below k to =
    let far : is_below (get_or names last d) (get_or names k d) ≡ false =
    sorted_far is_below byte_order names order k last d to within in
    elim (is_below (get_or names k d) name) as (λ b. is_below (get_or names k d) name ≡ b → b ≡ true) [
      | true ↦ λ _. refl
      | false ↦ λ not. sym (byte_order.chain (get_or names last d) (get_or names k d) name far not) ∙ below
    ] refl

-- it comes after all that are smaller
behind : (name : List ℕ) (names : List (List ℕ)) (at : ℕ) (d : List ℕ) → at ≤ length names
    → ((k : ℕ) → k < at → is_below (get_or names k d) name ≡ true)
    → with_name name names ≡ take at names ++ with_name name (drop at names)
behind name names zero d within below = refl
behind name [] (suc at) d within below = absurd (omega (arith, within))
behind name (first ∷ names) (suc at) d within below =
    let here : is_below first name ≡ true = below 0 (omega arith) in
    rw here (ap (λ (t : List (List ℕ)). first ∷ t)
    (behind name names at d (omega (arith, within)) (λ k less. below (suc k) (omega (arith, less)))))

-- it comes before those from a place on
abbrev pub IsBefore : List ℕ → List (List ℕ) → ℕ → Type 0
IsBefore name names place = with_name name (drop place names) ≡ name ∷ drop place names

pub place_behind : (name : List ℕ) (names : List (List ℕ)) (place last : ℕ) (here : List ℕ) → AreInOrder names
    → place ≤ length names
    → place ≡ last + 1 → here ≡ get_or names last here → is_below here name ≡ true → IsBefore name names place
    → with_name name names ≡ take place names ++ name ∷ drop place names
place_behind name names place last here order within next is below before =
    let smaller : is_below (get_or names last here) name ≡ true = ap (λ (t : List ℕ). is_below t name) (sym is)
    ∙ below in
    let all = all_below name names last here order (omega (arith, within, next)) smaller in
    behind name names place here within (λ k less. all k (omega (arith, less, next)))
    ∙ ap (λ (t : List (List ℕ)). take place names ++ t) before

-- One more is inserted at its place, or nothing is.
pub ordered_put : (put : Bool) (name : List ℕ) (names new : List (List ℕ)) (place : ℕ) → AreInOrder names
    → with_name name names ≡ take place names ++ name ∷ drop place names
    → new ≡ (if put then insert names place name else names) → AreInOrder new
ordered_put true name names new place order at is = subst AreInOrder (at ∙ sym is) (ordered-with_name name names order)
ordered_put false name names new place order at is = subst AreInOrder (sym is) order
