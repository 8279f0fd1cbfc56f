-- What a binary search finds.
use Rattle.std.proofs.Common.{◌≡◌, ◌≢◌, ℕ, ◌+◌, ◌<◌, ◌≤◌, true, false, List, [], ◌∷◌, length, get_or, sym, ap, ◌∙◌}
use Rattle.std.proofs.Common.{refl, arith, inl, inr, zero, suc, Some, None, subst, Result, Ok, Err, ◌⊎◌}
use Rattle.std.specs.List.{AllPairs, All, insert}
use Rattle.std.specs.Ordering.{ordering_reverse}
use Rattle.std.specs.declared.cmp.Ordering.{Ordering}
use Rattle.std.specs.declared.cmp.Ordering.TheVariants.{Less, Greater}
use Rattle.std.proofs.lemmas.Bool.{cases_lt}
use Rattle.std.proofs.lemmas.Cmp.{nat_list_cmp_total}
use Rattle.std.proofs.lemmas.List.{get_or-map, get_or_default, length-map}
use Rattle.scan_table.specs.Slots.{Row, SlotState, name_order, is_name}
use Rattle.scan_table.specs.Scan.{slot_of, AreRising}
use Rattle.scan_table.specs.Index.{names_of, name_at, IsIndex, IsSearched, ArePassed, IsBefore}
use Rattle.scan_table.proofs.Indexed.{index-distinct, index-insert}
use Rattle.scan_table.proofs.Rising.{rising-pairs}
use Rattle.scan_table.proofs.Orders.{above-below, equal-same, same-named, differs-named, below-differs}

-- The names up to a smaller one are smaller.
pub below-more : (names : List (List ℕ)) (index : List ℕ) (middle : ℕ) (name : List ℕ) → IsIndex names index
    → middle < length index →
    name_order (name_at names index middle) name ≡ Less → (k : ℕ) → k < middle + 1
    → name_order (name_at names index k) name ≡ Less
below-more names index middle name is within less k b =
    elim (cases_lt k middle) [
      | (inl below) ↦ nat_list_cmp_total.trans (name_at names index k) (name_at names index middle) name
          (is.rising k middle below within) less
      | (inr same) ↦
          let e : k ≡ middle = omega arith in
          ap (λ n. name_order (name_at names index n) name) e ∙ less
    ]

-- The names from a greater one on are greater.
pub above-more : (names : List (List ℕ)) (index : List ℕ) (middle : ℕ) (name : List ℕ) → IsIndex names index →
    name_order (name_at names index middle) name ≡ Greater → (k : ℕ) → middle ≤ k → k < length index
    → name_order (name_at names index k) name ≡ Greater
above-more names index middle name is greater k b within =
    elim (cases_lt middle k) [
      | (inl below) ↦
          nat_list_cmp_total.antisymm (name_at names index k) name ∙
          ap ordering_reverse (nat_list_cmp_total.trans name (name_at names index middle) (name_at names index k)
          (above-below (name_at names index middle) name greater) (is.rising middle k below within))
      | (inr same) ↦
          let e : k ≡ middle = omega arith in
          ap (λ n. name_order (name_at names index n) name) e ∙ greater
    ]

-- the name of the slot at a place of an index
pub name-read : (slots : List SlotState) (index : List ℕ) (k : ℕ) (slot : SlotState)
    → slot ≡ get_or slots (get_or index k 0) slot → get_or index k 0 < length slots →
    name_at (names_of slots) index k ≡ slot.name
name-read slots index k slot read within =
    get_or-map (λ (s : SlotState). s.name) slots (get_or index k 0) slot [] within
    ∙ sym (ap (λ (s : SlotState). s.name) read)

-- how the name at a place compares with another, as the comparison returns it
pub order-read : (slots : List SlotState) (index : List ℕ) (k : ℕ) (slot : SlotState) (word name : List ℕ)
    (reported order : Ordering) →
    slot ≡ get_or slots (get_or index k 0) slot → get_or index k 0 < length slots → word ≡ slot.name
    → reported ≡ name_order word name → reported ≡ order →
    name_order (name_at (names_of slots) index k) name ≡ order
order-read slots index k slot word name reported order read within is cmp so =
    ap (λ x. name_order x name) (name-read slots index k slot read within ∙ sym is) ∙ sym cmp ∙ so

-- if no two slots have the same name, the slot with a name is at a place
pub slot-here : (slots : List SlotState) (row : Row) (place : ℕ) (slot : SlotState)
    → AllPairs (λ (a : SlotState) (b : SlotState). a.name ≢ b.name) slots →
    place < length slots → slot ≡ get_or slots place slot → slot.name ≡ row.name → slot_of slots row ≡ Some slot
slot-here [] row place slot distinct within read same = absurd (omega arith)
slot-here (first ∷ slots) row zero slot distinct within read same =
    let yes : is_name row.name first.name ≡ true =
    same-named row.name first.name (sym same ∙ ap (λ (s : SlotState). s.name) read) in
    rw yes (ap (λ (s : SlotState). Some s) (sym read))
slot-here (first ∷ slots) row (suc place) slot distinct within read same =
    let other : first.name ≢ (get_or slots place slot).name = distinct 0 (suc place) slot (omega arith) within in
    let no : is_name row.name first.name ≡ false =
    differs-named row.name first.name (λ e. other (sym e ∙ sym same ∙ ap (λ (s : SlotState). s.name) read)) in
    rw no (slot-here slots row place slot (λ i j d b w. distinct (suc i) (suc j) d (omega arith) (omega arith))
    (omega arith) read same)

-- if no slot has a name
pub slot-nowhere : (slots : List SlotState) (row : Row) → All (λ (slot : SlotState). slot.name ≢ row.name) slots
    → slot_of slots row ≡ None
slot-nowhere [] row none = refl
slot-nowhere (first ∷ slots) row none =
    let no : is_name row.name first.name ≡ false =
    differs-named row.name first.name (λ e. none 0 first (omega arith) (sym e)) in
    rw no (slot-nowhere slots row (λ k d b. none (suc k) d (omega arith)))

-- a name that a search did not find
pub searched-none : (slots : List SlotState) (index : List ℕ) (name : List ℕ) (at : ℕ) → IsIndex (names_of slots) index
    → length index ≡ length slots →
    IsSearched (names_of slots) index name (Err at) → All (λ (slot : SlotState). slot.name ≢ name) slots
searched-none slots index name at is whole searched k d b =
    let found = is.all k (omega (arith, whole)) in
    let read : name_at (names_of slots) index found.0 ≡ (get_or slots k d).name =
    ap (λ n. get_or (names_of slots) n []) found.2 ∙ get_or-map (λ (s : SlotState). s.name) slots k d [] b in
    elim (cases_lt found.0 at) [
      | (inl below) ↦ λ same. below-differs (name_at (names_of slots) index found.0) name (searched.1 found.0 below)
          (read ∙ same)
      | (inr above) ↦ λ same. below-differs name (name_at (names_of slots) index found.0)
          (above-below (name_at (names_of slots) index found.0) name (searched.2 found.0 above found.1))
          (sym (read ∙ same))
    ]

-- the slots of a whole index have different names
pub slots-distinct : (slots : List SlotState) (index : List ℕ) → IsIndex (names_of slots) index
    → length index ≡ length slots →
    AllPairs (λ (a : SlotState) (b : SlotState). a.name ≢ b.name) slots
slots-distinct slots index is whole i j d before within =
    let lengths : length (names_of slots) ≡ length slots = length-map slots (λ (s : SlotState). s.name) in
    let differ : get_or (names_of slots) i [] ≢ get_or (names_of slots) j [] =
    index-distinct (names_of slots) index is (whole ∙ sym lengths) i j [] before (omega (arith, lengths)) in
    λ same. differ (get_or-map (λ (s : SlotState). s.name) slots i d [] (omega arith) ∙ same
    ∙ sym (get_or-map (λ (s : SlotState). s.name) slots j d [] within))

-- The numbers up to a smaller one are smaller.
pub number-below : (slots : List SlotState) (middle number here : ℕ) → AllPairs IsBefore slots → middle < length slots →
    ((d : SlotState) → (get_or slots middle d).number ≡ here) → here < number → (k : ℕ) (d : SlotState) → k < middle + 1
    → (get_or slots k d).number < number
number-below slots middle number here rising within read less k d b =
    elim (cases_lt k middle) [
      | (inl below) ↦ (let h : (get_or slots k d).number < (get_or slots middle d).number =
          rising k middle d below within in omega (arith, h, read d))
      | (inr same) ↦
          let e : k ≡ middle = omega arith in
          omega (arith, read d, ap (λ n. (get_or slots n d).number) e)
    ]

-- The numbers from a greater one on are greater.
pub number-above : (slots : List SlotState) (middle number here : ℕ) → AllPairs IsBefore slots →
    ((d : SlotState) → (get_or slots middle d).number ≡ here) → number < here → (k : ℕ) (d : SlotState) → middle ≤ k
    → k < length slots → number < (get_or slots k d).number
number-above slots middle number here rising read greater k d b within =
    elim (cases_lt middle k) [
      | (inl below) ↦ (let h : (get_or slots middle d).number < (get_or slots k d).number =
          rising middle k d below within in omega (arith, h, read d))
      | (inr same) ↦
          let e : k ≡ middle = omega arith in
          omega (arith, read d, ap (λ n. (get_or slots n d).number) e)
    ]

-- the slot that a search found
pub searched-some : (slots : List SlotState) (index : List ℕ) (row : Row) (name : List ℕ) (at : ℕ) (slot : SlotState)
    → IsIndex (names_of slots) index → length index ≡ length slots →
    IsSearched (names_of slots) index name (Ok at) → name ≡ row.name → slot ≡ get_or slots (get_or index at 0) slot
    → Some slot ≡ slot_of slots row
searched-some slots index row name at slot is whole searched named read =
    let within : get_or index at 0 < length slots = (let h = is.within at searched.0 in omega (arith, h, whole)) in
    let same : slot.name ≡ row.name = sym (name-read slots index at slot read within)
    ∙ equal-same (name_at (names_of slots) index at) name searched.1 ∙ named in
    sym (slot-here slots row (get_or index at 0) slot (slots-distinct slots index is whole) within read same)

-- For a new name, the result of a search is the place at which to put it.
pub searched-new : (slots : List SlotState) (index : List ℕ) (name : List ℕ) (slot : SlotState) (result : Result ℕ ℕ)
    (at : ℕ) → IsIndex (names_of slots) index → length index < length slots →
    AllPairs (λ (a : SlotState) (b : SlotState). a.name ≢ b.name) slots → slot ≡ get_or slots (length index) slot
    → name ≡ slot.name →
    IsSearched (names_of slots) index name result → (result ≡ Ok at) ⊎ (result ≡ Err at)
    → IsIndex (names_of slots) (insert index at (length index))
searched-new slots index name slot result at is bound distinct read named searched so =
    let last : get_or (names_of slots) (length index) [] ≡ name =
    get_or-map (λ (s : SlotState). s.name) slots (length index) slot [] bound
    ∙ sym (ap (λ (s : SlotState). s.name) read) ∙ sym named in
    elim so [
      | (inl ok) ↦
          let found : IsSearched (names_of slots) index name (Ok at) =
          subst (λ r. IsSearched (names_of slots) index name r) ok searched in
          let place : get_or index at 0 < length index = is.within at found.0 in
          let here : (get_or slots (get_or index at 0) slot).name ≡ (get_or slots (length index) slot).name =
          sym (get_or-map (λ (s : SlotState). s.name) slots (get_or index at 0) slot [] (omega arith)) ∙
          equal-same (name_at (names_of slots) index at) name found.1 ∙ named ∙ ap (λ (s : SlotState). s.name) read in
          absurd (distinct (get_or index at 0) (length index) slot place bound here)
      | (inr err) ↦ index-insert (names_of slots) index at name is last
          (subst (λ r. IsSearched (names_of slots) index name r) err searched)
    ]

-- the number of the slot at a place
pub number-read : (slots : List SlotState) (place : ℕ) (slot : SlotState) (here : ℕ) → place < length slots
    → slot ≡ get_or slots place slot → here ≡ slot.number →
    (d : SlotState) → (get_or slots place d).number ≡ here
number-read slots place slot here within read is d =
    ap (λ (s : SlotState). s.number) (get_or_default slots place d slot within ∙ sym read) ∙ sym is

-- the names before the place of a name are smaller
pub found-passed : (names : List (List ℕ)) (index : List ℕ) (name : List ℕ) (at : ℕ) → IsIndex names index
    → IsSearched names index name (Ok at) →
    ArePassed names index at name
found-passed names index name at is searched k below =
    ap (name_order (name_at names index k)) (sym (equal-same (name_at names index at) name searched.1))
    ∙ is.rising k at below searched.0

-- Names that are smaller than a row's name are smaller than all later ones.
pub passed-on : (names : List (List ℕ)) (index : List ℕ) (at : ℕ) (rows : List Row) (i : ℕ) (row : Row) → AreRising rows
    → i < length rows → row ≡ get_or rows i row →
    ArePassed names index at row.name → (j : ℕ) (d : Row) → i + 1 ≤ j → j < length rows
    → ArePassed names index at (get_or rows j d).name
passed-on names index at rows i row rising within read passed j d after b k below =
    let less : name_order row.name (get_or rows j d).name ≡ Less =
    ap (λ (r : Row). name_order r.name (get_or rows j d).name) (read ∙ get_or_default rows i row d within)
    ∙ rising-pairs rows rising i j d (omega arith) b in
    nat_list_cmp_total.trans (name_at names index k) row.name (get_or rows j d).name (passed k below) less
