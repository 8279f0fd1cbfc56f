-- What a binary search finds among rows.
use Rattle.std.proofs.Common.{◌≡◌, ◌≢◌, ℕ, ◌+◌, ◌<◌, ◌≤◌, Bool, true, false, ◌&&◌, ◌||◌, List, [], ◌∷◌, length, get_or}
use Rattle.std.proofs.Common.{drop, sym, ap, ◌∙◌, refl, arith, inl, inr, if◌then◌else◌, Some, None, zero, suc, ◌-◌}
use Rattle.std.specs.List.{list_any, filter, AllPairs, AllAdjacentBelow}
use Rattle.std.specs.Ordering.{ordering_reverse}
use Rattle.std.specs.declared.cmp.Ordering.{Ordering}
use Rattle.std.specs.declared.cmp.Ordering.TheVariants.{Less, Equal, Greater}
use Rattle.std.proofs.lemmas.Bool.{cases_lt}
use Rattle.std.proofs.Math.Seq.{drop-cons}
use Rattle.std.proofs.Math.ListN.{drop_of_length-le}
use Rattle.std.proofs.lemmas.Cmp.{nat_list_cmp_total}
use Rattle.std.proofs.lemmas.List.{get_or_default}
use Rattle.std.proofs.lemmas.List.Folds.{list_any_none}
use Rattle.scan_table.specs.Slots.{Row, SlotState, name_order, is_name, is_eligible}
use Rattle.scan_table.specs.Scan.{AreRising, IsBelow, has_row}
use Rattle.scan_table.specs.Order.{row_of, IsRowAt, HasNoRow, order_fault, order_fault_after, fault_at}
use Rattle.scan_table.proofs.Rising.{rising-pairs}
use Rattle.scan_table.proofs.Orders.{above-below, equal-same, same-named, differs-named, below-differs}
use Rattle.scan_table.proofs.Placed.{any-one}

-- how the name of the row at a place compares with another, as the comparison returns it
pub row-read : (rows : List Row) (place : ℕ) (row : Row) (word name other : List ℕ) (reported order : Ordering)
    → place < length rows →
    row ≡ get_or rows place row → word ≡ row.name → other ≡ name → reported ≡ name_order word other → reported ≡ order →
    (d : Row) → name_order (get_or rows place d).name name ≡ order
row-read rows place row word name other reported order within read is named cmp so d =
    ap (λ (r : Row). name_order r.name name) (get_or_default rows place d row within ∙ sym read) ∙
    ap (λ x. name_order x name) (sym is) ∙ ap (λ x. name_order word x) (sym named) ∙ sym cmp ∙ so

-- The names up to a smaller one are smaller.
pub rows-below : (rows : List Row) (middle : ℕ) (name : List ℕ) → AreRising rows → middle < length rows →
    ((d : Row) → name_order (get_or rows middle d).name name ≡ Less) → (k : ℕ) (d : Row) → k < middle + 1
    → name_order (get_or rows k d).name name ≡ Less
rows-below rows middle name rising within less k d b =
    elim (cases_lt k middle) [
      | (inl below) ↦ nat_list_cmp_total.trans (get_or rows k d).name (get_or rows middle d).name name
          (rising-pairs rows rising k middle d below within) (less d)
      | (inr same) ↦
          let e : k ≡ middle = omega arith in
          ap (λ n. name_order (get_or rows n d).name name) e ∙ less d
    ]

-- The names from a greater one on are greater.
pub rows-above : (rows : List Row) (middle : ℕ) (name : List ℕ) → AreRising rows →
    ((d : Row) → name_order (get_or rows middle d).name name ≡ Greater) → (k : ℕ) (d : Row) → middle ≤ k
    → k < length rows → name_order (get_or rows k d).name name ≡ Greater
rows-above rows middle name rising greater k d b within =
    elim (cases_lt middle k) [
      | (inl below) ↦
          nat_list_cmp_total.antisymm (get_or rows k d).name name ∙
          ap ordering_reverse (nat_list_cmp_total.trans name (get_or rows middle d).name (get_or rows k d).name
          (above-below (get_or rows middle d).name name (greater d)) (rising-pairs rows rising middle k d below within))
      | (inr same) ↦
          let e : k ≡ middle = omega arith in
          ap (λ n. name_order (get_or rows n d).name name) e ∙ greater d
    ]

any-filter : {T : Type 0} (p q : T → Bool) (xs : List T) → list_any p (filter q xs) ≡ list_any (λ x. q x && p x) xs
any-filter p q [] = refl
any-filter p q (x ∷ xs) =
    elim (q x) as (λ b. list_any p (if b then x ∷ filter q xs else filter q xs)
    ≡ ((b && p x) || list_any (λ y. q y && p y) xs)) [
      | true ↦ ap (λ b. p x || b) (any-filter p q xs)
      | false ↦ any-filter p q xs
    ]

-- whether the row with a slot's name is eligible
abbrev serves : SlotState → Row → Bool
serves slot row = is_eligible row && is_name row.name slot.name

other-serves : (slot : SlotState) (row : Row) → row.name ≢ slot.name → serves slot row ≡ false
other-serves slot row other =
    let no : is_name row.name slot.name ≡ false = differs-named row.name slot.name other in
    elim (is_eligible row) as (λ b. (b && is_name row.name slot.name) ≡ false) [ true ↦ no | false ↦ refl ]

-- The row with a slot's name shows whether the slot has an eligible row.
pub row-found : (rows : List Row) (middle : ℕ) (row : Row) (slot : SlotState) (result : Bool) → AreRising rows
    → middle < length rows → row ≡ get_or rows middle row →
    ((d : Row) → name_order (get_or rows middle d).name slot.name ≡ Equal) → result ≡ is_eligible row
    → result ≡ has_row rows slot
row-found rows middle row slot result rising within read equal is =
    let same : row.name ≡ slot.name = ap (λ (r : Row). r.name) read
    ∙ equal-same (get_or rows middle row).name slot.name (equal row) in
    let served : serves slot row ≡ is_eligible row =
    ap (λ b. is_eligible row && b) (same-named row.name slot.name same) ∙
    elim (is_eligible row) as (λ b. (b && true) ≡ b) [ true ↦ refl | false ↦ refl ] in
    is ∙ sym served ∙
    any-one (serves slot) rows middle row within read
    (λ k d b other. other-serves slot (get_or rows k d)
    (λ e. elim (cases_lt k middle) [
      | (inl below) ↦ below-differs (get_or rows k d).name (get_or rows middle d).name
          (rising-pairs rows rising k middle d below within)
          (e ∙ sym same ∙ ap (λ (r : Row). r.name) (read ∙ get_or_default rows middle row d within))
      | (inr above) ↦ below-differs (get_or rows middle d).name (get_or rows k d).name
          (rising-pairs rows rising middle k d (omega arith) b)
          (sym (e ∙ sym same ∙ ap (λ (r : Row). r.name) (read ∙ get_or_default rows middle row d within)))
    ])) ∙
    sym (any-filter (λ (r : Row). is_name r.name slot.name) is_eligible rows)

-- no row has a name
pub row-nowhere : (rows : List Row) (name : List ℕ) (low high : ℕ) → high ≤ low →
    ((k : ℕ) (d : Row) → k < low → name_order (get_or rows k d).name name ≡ Less) →
    ((k : ℕ) (d : Row) → high ≤ k → k < length rows → name_order (get_or rows k d).name name ≡ Greater)
    → HasNoRow rows name
row-nowhere rows name low high met below above k d b =
    elim (cases_lt k low) [
      | (inl less) ↦ below-differs (get_or rows k d).name name (below k d less)
      | (inr more) ↦ λ e. below-differs name (get_or rows k d).name
          (above-below (get_or rows k d).name name (above k d (omega arith) b)) (sym e)
    ]

-- no row has a slot's name
pub row-missing : (rows : List Row) (slot : SlotState) → HasNoRow rows slot.name → false ≡ has_row rows slot
row-missing rows slot none =
    sym (any-filter (λ (r : Row). is_name r.name slot.name) is_eligible rows ∙
    list_any_none (serves slot) rows (λ k d b. other-serves slot (get_or rows k d) (none k d b)))

-- The row at the place of a name is the row with that name.
pub row-here : (rows : List Row) (name : List ℕ) (place : ℕ) (row : Row) → AllPairs IsBelow rows
    → IsRowAt rows name place → row ≡ get_or rows place row →
    Some row ≡ row_of rows name
row-here [] name place row rising at read = absurd (omega (arith, at.within))
row-here (first ∷ rows) name zero row rising at read =
    let is : is_name first.name name ≡ true = same-named first.name name (equal-same first.name name (at.here first)) in
    ap (λ (r : Row). Some r) read ∙ rw is refl
row-here (first ∷ rows) name (suc place) row rising at read =
    let same : (get_or rows place first).name ≡ name = equal-same (get_or rows place first).name name (at.here first) in
    let less : name_order first.name (get_or rows place first).name ≡ Less =
    rising 0 (suc place) first (omega arith) at.within in
    let no : is_name first.name name ≡ false =
    differs-named first.name name
    (λ e. below-differs first.name (get_or rows place first).name less (e ∙ sym same)) in
    row-here rows name place row (λ i j d b w. rising (suc i) (suc j) d (omega arith) (omega arith))
    (record { within = omega (arith, at.within); here = λ d. at.here d }) read ∙ rw no refl

pub row-not-here : (rows : List Row) (name : List ℕ) → HasNoRow rows name → None ≡ row_of rows name
row-not-here [] name none = refl
row-not-here (first ∷ rows) name none =
    let no : is_name first.name name ≡ false = differs-named first.name name (none 0 first (omega arith)) in
    row-not-here rows name (λ k d b. none (suc k) d (omega arith)) ∙ rw no refl

-- The fault of the rows from a place on, by the order of the names there.
pub order-next : (rows : List Row) (place : ℕ) (d before here : Row) → place < length rows → here ≡ get_or rows place d
    →
    order_fault_after place before.name (drop place rows)
    ≡ fault_at place (name_order before.name here.name)
    (order_fault_after (place + 1) here.name (drop (place + 1) rows))
order-next rows place d before here within is-here =
    let e : suc place ≡ place + 1 = omega arith in
    ap (order_fault_after place before.name) (drop-cons rows place d within
    ∙ ap (λ x. x ∷ drop (suc place) rows) (sym is-here) ∙ ap (λ n. here ∷ drop n rows) e)

-- no rows are left
pub order-last : (rows : List Row) (place : ℕ) (name : List ℕ) → length rows ≤ place
    → order_fault_after place name (drop place rows) ≡ None
order-last rows place name end = ap (order_fault_after place name) (drop_of_length-le rows end)

-- The faults from a place on are the fault that the order of the names there gives, and those after it.
pub order-reported : (rows : List Row) (place : ℕ) (before here : Row) (one two : List ℕ) (reported order : Ordering)
    → 0 < place → place < length rows →
    before ≡ get_or rows (place - 1) before → here ≡ get_or rows place here → one ≡ before.name → two ≡ here.name
    → reported ≡ name_order one two → reported ≡ order →
    ((d : Row) → 0 < length rows
    → order_fault rows ≡ order_fault_after place (get_or rows (place - 1) d).name (drop place rows)) →
    order_fault rows ≡ fault_at place order (order_fault_after (place + 1) here.name (drop (place + 1) rows))
order-reported rows place before here one two reported order after within is-before is-here is-one is-two cmp so left =
    left before (omega (arith, within)) ∙
    ap (λ (r : Row). order_fault_after place r.name (drop place rows)) (sym is-before) ∙
    order-next rows place here before here within is-here ∙
    ap (λ o. fault_at place o (order_fault_after (place + 1) here.name (drop (place + 1) rows)))
    (ap (λ x. name_order x here.name) (sym is-one) ∙ ap (λ x. name_order one x) (sym is-two) ∙ sym cmp ∙ so)

-- one more name that is greater
pub order-more : (rows : List Row) (place : ℕ) (here : Row) → place < length rows → here ≡ get_or rows place here →
    order_fault rows ≡ order_fault_after (place + 1) here.name (drop (place + 1) rows) →
    (d : Row) → 0 < length rows
    → order_fault rows ≡ order_fault_after (place + 1) (get_or rows (place + 1 - 1) d).name (drop (place + 1) rows)
order-more rows place here within is-here so d some =
    let e : place ≡ place + 1 - 1 = omega arith in
    so ∙ ap (λ (r : Row). order_fault_after (place + 1) r.name (drop (place + 1) rows)) (is-here
    ∙ get_or_default rows place here d within)
    ∙ ap (λ n. order_fault_after (place + 1) (get_or rows n d).name (drop (place + 1) rows)) e

-- there is no fault if no rows are left
pub order-none : (rows : List Row) (place : ℕ) → length rows ≤ place →
    ((d : Row) → 0 < length rows
    → order_fault rows ≡ order_fault_after place (get_or rows (place - 1) d).name (drop place rows))
    → None ≡ order_fault rows
order-none [] place end left = refl
order-none (row ∷ rows) place end left =
    sym (left row (omega arith) ∙ order-last (row ∷ rows) place (get_or (row ∷ rows) (place - 1) row).name end)

-- one more place, if the names rise
pub rising-more : (rows : List Row) (place : ℕ) (before here : Row) (one two : List ℕ) (reported : Ordering) → 0 < place
    → place < length rows →
    before ≡ get_or rows (place - 1) before → here ≡ get_or rows place here → one ≡ before.name → two ≡ here.name
    → reported ≡ name_order one two → reported ≡ Less →
    AllAdjacentBelow IsBelow rows place → AllAdjacentBelow IsBelow rows (place + 1)
rising-more rows place before here one two reported after within is-before is-here is-one is-two cmp so rising k d b =
    elim (cases_lt (k + 1) place) [
      | (inl earlier) ↦ rising k d earlier
      | (inr last) ↦
          let e : place - 1 ≡ k = omega arith in
          let f : place ≡ k + 1 = omega arith in
          let x : get_or rows k d ≡ before = get_or_default rows k d before (omega (arith, within))
          ∙ ap (λ n. get_or rows n before) (sym e) ∙ sym is-before in
          let y : get_or rows (k + 1) d ≡ here = get_or_default rows (k + 1) d here (omega (arith, within))
          ∙ ap (λ n. get_or rows n here) (sym f) ∙ sym is-here in
          ap (λ (r : Row). name_order r.name (get_or rows (k + 1) d).name) x
          ∙ ap (λ (r : Row). name_order before.name r.name) y ∙
          ap (λ w. name_order w here.name) (sym is-one) ∙ ap (λ w. name_order one w) (sym is-two) ∙ sym cmp ∙ so
    ]
